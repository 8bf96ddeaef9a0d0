-- The classes with which states begin, by whether they are final.
use Rattle.std.proofs.Common.{◌≡◌, ◌≢◌, ℕ, ◌+◌, ◌<◌, ◌⊎◌, max, Bool, true, false, List, [], ◌∷◌, ◌++◌, length, get_or, refl, sym, ap, ◌∙◌, subst, inl, inr, arith}
use Rattle.std.proofs.lemmas.Bool.{cases_lt, false≢true}
use Rattle.std.proofs.lemmas.List.{get_or_append_left, get_or_push, length_push}
use Rattle.rela_subset.specs.Deterministic.{Deterministic, IsDeterministic, states}
use Rattle.rela_minimise.specs.Classes.{finality}
use Rattle.rela_minimise.specs.Cutting.{AreCoarse}
use Rattle.rela_minimise.proofs.Alike.{accept_final}

-- two truths that differ from a third are the same
both_other : (a b c : Bool) → a ≢ c → b ≢ c → a ≡ b
both_other true true c a_not b_not = refl
both_other false false c a_not b_not = refl
both_other true false true a_not b_not = absurd (a_not refl)
both_other true false false a_not b_not = absurd (b_not refl)
both_other false true true a_not b_not = absurd (b_not refl)
both_other false true false a_not b_not = absurd (a_not refl)

-- the class of a state by whether it is final as the first one is
abbrev pub IsByFinality : Bool → ℕ → Bool → ℕ → Type 0
IsByFinality first count final class = ((final ≡ first) × (class ≡ 0)) ⊎ ((final ≢ first) × (class ≡ 1) × (count ≡ 2))

module _ (d : Deterministic) (ok : IsDeterministic d) (first : Bool) (start_is : finality d d.start ≡ first) (count : ℕ) (classes : List ℕ) (each : length classes ≡ states d)
    (own : (q : ℕ) → q < states d → IsByFinality first count (finality d q) (get_or classes q 0))
    (counts : (count ≡ 1) ⊎ ((count ≡ 2) × ((q : ℕ) × (q < states d) × (get_or classes q 0 ≡ 1)))) where
  low : (q : ℕ) → IsByFinality first count (finality d q) (get_or classes q 0) → get_or classes q 0 < count
  low q (inl (final, at)) = elim counts [ inl one ↦ omega (arith, at, one) | inr two ↦ let is = two.0 in omega (arith, at, is) ]
  low q (inr (differs, at, two)) = omega (arith, at, two)

  start_zero : IsByFinality first count (finality d d.start) (get_or classes d.start 0) → get_or classes d.start 0 ≡ 0
  start_zero (inl (final, at)) = at
  start_zero (inr (differs, at, two)) = absurd (differs start_is)

  one_final : (p q : ℕ) → IsByFinality first count (finality d p) (get_or classes p 0) → IsByFinality first count (finality d q) (get_or classes q 0) → get_or classes p 0 ≡ get_or classes q 0 → finality d p ≡ finality d q
  one_final p q (inl (p_is, p_at)) (inl (q_is, q_at)) same = p_is ∙ sym q_is
  one_final p q (inl (p_is, p_at)) (inr (q_not, q_at, two)) same = absurd (omega (arith, p_at, q_at, same))
  one_final p q (inr (p_not, p_at, two)) (inl (q_is, q_at)) same = absurd (omega (arith, p_at, q_at, same))
  one_final p q (inr (p_not, p_at, two)) (inr (q_not, q_at, two')) same = both_other (finality d p) (finality d q) first p_not q_not

  final_one : (p q : ℕ) → IsByFinality first count (finality d p) (get_or classes p 0) → IsByFinality first count (finality d q) (get_or classes q 0) → finality d p ≡ finality d q → get_or classes p 0 ≡ get_or classes q 0
  final_one p q (inl (p_is, p_at)) (inl (q_is, q_at)) same = p_at ∙ sym q_at
  final_one p q (inl (p_is, p_at)) (inr (q_not, q_at, two)) same = absurd (q_not (sym same ∙ p_is))
  final_one p q (inr (p_not, p_at, two)) (inl (q_is, q_at)) same = absurd (p_not (same ∙ q_is))
  final_one p q (inr (p_not, p_at, two)) (inr (q_not, q_at, two')) same = p_at ∙ sym q_at

  pub coarse_first : AreCoarse d count classes
  coarse_first = record {
    counted = record {
      each = each;
      counted = λ q below. low q (own q below);
      met = λ c below. elim counts [
        | inl one ↦ (d.start, ok.automaton.starts, (let zero_at = start_zero (own d.start ok.automaton.starts) in omega arith))
        | inr (two, witness) ↦ elim (cases_lt c 1) [
          | inl less ↦ (d.start, ok.automaton.starts, (let zero_at = start_zero (own d.start ok.automaton.starts) in omega arith))
          | inr not_less ↦ (witness.0, witness.1, (let at = witness.2 in omega arith))
        ]
      ];
    };
    accepting = λ p q p_in q_in same. final_one p q (own p p_in) (own q q_in) (accept_final d p q same);
    final = λ p q p_in q_in same. one_final p q (own p p_in) (own q q_in) same;
  }

-- the first q states have their classes
pub record AreByFinality (d : Deterministic) (first : Bool) (q count : ℕ) (numbers : List ℕ) : Type 0 where
  pub each : length numbers ≡ q
  pub own : (p : ℕ) → p < q → IsByFinality first count (finality d p) (get_or numbers p 0)
  pub counted : (count ≡ 1) ⊎ ((count ≡ 2) × ((p : ℕ) × (p < q) × (get_or numbers p 0 ≡ 1)))

pub first_none : (d : Deterministic) (first : Bool) (numbers : List ℕ) → numbers ≡ [] → AreByFinality d first 0 1 numbers
first_none d first numbers none = record {
  each = ap length none;
  own = λ p below. absurd (omega arith);
  counted = inl refl;
}

same_or_not : (a b : Bool) → (a ≡ b) ⊎ (a ≢ b)
same_or_not true true = inl refl
same_or_not false false = inl refl
same_or_not true false = inr (λ same. false≢true (sym same))
same_or_not false true = inr (λ same. false≢true same)

-- a class of two stays so where there may be more of them
still_own : (first : Bool) (count count' : ℕ) (final : Bool) (class : ℕ) → (count ≡ 2 → count' ≡ 2) → IsByFinality first count final class → IsByFinality first count' final class
still_own first count count' final class two (inl same) = inl same
still_own first count count' final class two (inr (differs, at, is)) = inr (differs, at, two is)

-- how many classes there are with the class of one state more
count_more : (count class count' : ℕ) → (count ≡ 1) ⊎ (count ≡ 2) → class < 2 → count' ≡ max count (class + 1) → ((count' ≡ count) × (class ≡ 0)) ⊎ ((count' ≡ 2) × (class ≡ 1))
count_more count class count' few small is = elim (cases_lt class 1) [
  | inl zero ↦ inl (elim few [ inl one ↦ omega (arith, one, is, zero) | inr two ↦ omega (arith, two, is, zero) ], omega arith)
  | inr one_class ↦ inr (elim few [ inl one ↦ omega (arith, one, is, one_class, small) | inr two ↦ omega (arith, two, is, one_class, small) ], omega arith)
]

module _ (d : Deterministic) (first : Bool) (q count class count' : ℕ) (numbers numbers' : List ℕ) (are : AreByFinality d first q count numbers) (same : finality d q ≡ first → class ≡ 0)
    (other : finality d q ≢ first → class ≡ 1) (small : class < 2) (is : count' ≡ max count (class + 1)) (pushed : numbers' ≡ numbers ++ class ∷ []) where
  few : (count ≡ 1) ⊎ (count ≡ 2)
  few = elim are.counted [ inl one ↦ inl one | inr two ↦ inr two.0 ]

  grown : ((count' ≡ count) × (class ≡ 0)) ⊎ ((count' ≡ 2) × (class ≡ 1))
  grown = count_more count class count' few small is

  stays_two : count ≡ 2 → count' ≡ 2
  stays_two two = elim grown [ inl as_was ↦ as_was.0 ∙ two | inr new ↦ new.0 ]

  stays : (p : ℕ) → p < q → get_or numbers' p 0 ≡ get_or numbers p 0
  stays p less = ap (λ l. get_or l p 0) pushed ∙ get_or_append_left numbers (class ∷ []) 0 p (let each = are.each in omega arith)

  last : get_or numbers' q 0 ≡ class
  last = ap (λ l. get_or l q 0) pushed ∙ get_or_push numbers class 0 q are.each

  own_last : IsByFinality first count' (finality d q) class
  own_last = elim (same_or_not (finality d q) first) [
    | inl final ↦ inl (final, same final)
    | inr differs ↦ elim grown [
      | inl as_was ↦ absurd (let one = other differs in let zero = as_was.1 in omega (arith, one, zero))
      | inr new ↦ inr (differs, new.1, new.0)
    ]
  ]

  counted_more : (count' ≡ 1) ⊎ ((count' ≡ 2) × ((p : ℕ) × (p < q + 1) × (get_or numbers' p 0 ≡ 1)))
  counted_more = elim grown [
    | inr new ↦ inr (new.0, (q, omega arith, last ∙ new.1))
    | inl as_was ↦ elim are.counted [
      | inl one ↦ inl (as_was.0 ∙ one)
      | inr (two, (p, below, at)) ↦ inr (as_was.0 ∙ two, (p, omega arith, stays p below ∙ at))
    ]
  ]

  pub first_more : AreByFinality d first (q + 1) count' numbers'
  first_more = record {
    each = ap length pushed ∙ length_push numbers class ∙ ap (λ n. n + 1) are.each;
    own = λ p below. elim (cases_lt p q) [
      | inl less ↦ subst (IsByFinality first count' (finality d p)) (sym (stays p less)) (still_own first count count' (finality d p) (get_or numbers p 0) stays_two (are.own p less))
      | inr not_less ↦
          let at : q ≡ p = omega arith in
          subst (λ n. IsByFinality first count' (finality d n) (get_or numbers' n 0)) at (subst (IsByFinality first count' (finality d q)) (sym last) own_last)
    ];
    counted = counted_more;
  }

pub first_all : (d : Deterministic) (first : Bool) (n count : ℕ) (numbers : List ℕ) → IsDeterministic d → finality d d.start ≡ first → n ≡ states d → AreByFinality d first n count numbers → AreCoarse d count numbers
first_all d first n count numbers ok start_is all are =
    let whole : AreByFinality d first (states d) count numbers = subst (λ m. AreByFinality d first m count numbers) all are in
    coarse_first d ok first start_is count numbers whole.each whole.own whole.counted
