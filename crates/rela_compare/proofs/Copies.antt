-- The states of a union, and what they say of the two automata.
use Rattle.std.proofs.Common.{◌≡◌, ℕ, ◌+◌, ◌-◌, ◌<◌, ◌⊎◌, ◌↔◌, false, List, [], ◌∷◌, get_or, sym, ap, ◌∙◌, subst, inl, inr, arith}
use Rattle.std.specs.List.{Contains}
use Rattle.std.proofs.lemmas.Bool.{cases_Bool, cases_lt, false≢true}
use Rattle.std.proofs.lemmas.List.{get_or_past}
use Rattle.rela_nfa.specs.Automaton.{Automaton, IsFinal, states}
use Rattle.rela_nfa.specs.Runs.{Accepts, Reach}
use Rattle.rela_nfa.specs.StateSet.{Lists}
use Rattle.rela_subset.specs.Sets.{ReachedBy}
use Rattle.rela_subset.specs.Subsets.{AreApart}
use Rattle.rela_compare.specs.Halves.{AreCopied, HasFinalFrom, IsAgreed, IsSought}
use Rattle.rela_compare.specs.declared.sought.Sought.{Sought}
use Rattle.rela_compare.specs.declared.sought.Sought.TheVariants.{FirstAlone, EitherAlone}
use Rattle.rela_compare.proofs.Members.{Contains-cons_cases, Contains-head, Contains-nil, Contains-tail}

-- a final state is a state
pub final_within : (a : Automaton) (q : ℕ) → IsFinal a q → q < states a
final_within a q final = elim (cases_lt q (states a)) [
  | inl below ↦ below
  | inr past ↦ absurd (false≢true (sym (get_or_past a.finals q false past) ∙ final))
]

final_copy_or_not : (a : Automaton) (from n : ℕ) → ((q : ℕ) × (n ≡ from + q) × IsFinal a q) ⊎ ¬ ((q : ℕ) × (n ≡ from + q) × IsFinal a q)
final_copy_or_not a from n = elim (cases_lt n from) [
  | inl below ↦ inr (λ (q, at, final). omega arith)
  | inr above ↦ elim (cases_Bool (get_or a.finals (n - from) false)) [
    | inl final ↦ inl (n - from, omega arith, final)
    | inr other ↦ inr (λ (q, at, final).
        let same : n - from ≡ q = omega arith in false≢true (sym other ∙ ap (λ p. get_or a.finals p false) same ∙ final))
  ]
]

pub final_or_not : (a : Automaton) (from : ℕ) (set : List ℕ) → HasFinalFrom a from set ⊎ ¬ HasFinalFrom a from set
final_or_not a from [] = inr (λ (q, among, final). Contains-nil (from + q) among)
final_or_not a from (n ∷ set) = elim (final_copy_or_not a from n) [
  | inl here ↦ inl (here.0, subst (Contains (n ∷ set)) here.1 (Contains-head n set), here.2)
  | inr not_here ↦ elim (final_or_not a from set) [
    | inl later ↦ inl (later.0, Contains-tail n set (from + later.0) later.1, later.2)
    | inr not_later ↦ inr (λ (q, among, final). elim (Contains-cons_cases n set (from + q) among) [
      | inl at ↦ not_here (q, at, final)
      | inr in_rest ↦ not_later (q, in_rest, final)
    ])
  ]
]

pub sought_along : (sought : Sought) (P P' Q Q' : Type 0) → P ↔ P' → Q ↔ Q' → IsSought sought P Q → IsSought sought P' Q'
sought_along FirstAlone P P' Q Q' first second is = (first.0 is.0, λ q. is.1 (second.1 q))
sought_along EitherAlone P P' Q Q' first second is = elim is [
  | inl one ↦ inl (first.0 one.0, λ q. one.1 (second.1 q))
  | inr other ↦ inr (second.0 other.0, λ p. other.1 (first.1 p))
]

-- both claims are decided where one of them holds, and what is sought doesn't hold then
pub record IsRuledOut (sought : Sought) (P Q : Type 0) : Type 0 where
  pub first : P ⊎ ¬ P
  pub second : Q ⊎ ¬ Q
  pub never : ¬ IsSought sought P Q

pub agreed_if : (sought : Sought) (P Q : Type 0) → (P ⊎ Q → IsRuledOut sought P Q) → IsAgreed sought P Q
agreed_if FirstAlone P Q rules_out = λ p. let out = rules_out (inl p) in elim out.second [ inl q ↦ q | inr no_q ↦ absurd (out.never (p, no_q)) ]
agreed_if EitherAlone P Q rules_out = (
  λ p. let out = rules_out (inl p) in elim out.second [ inl q ↦ q | inr no_q ↦ absurd (out.never (inl (p, no_q))) ],
  λ q. let out = rules_out (inr q) in elim out.first [ inl p ↦ p | inr no_p ↦ absurd (out.never (inr (q, no_p))) ],
)

pub one_of_them : (sought : Sought) (P Q : Type 0) → IsSought sought P Q → P ⊎ Q
one_of_them FirstAlone P Q is = inl is.0
one_of_them EitherAlone P Q is = elim is [ inl one ↦ inl one.0 | inr other ↦ inr other.0 ]

module _ (a b u : Automaton) (copied : AreCopied a b u) where
  pub first_accepts : (word set : List ℕ) → Lists (ReachedBy u word) set → HasFinalFrom a 1 set ↔ Accepts a word
  first_accepts word set lists = (
    λ (q, among, final). (q, (copied.first q word (final_within a q final)).0 ((lists.members (1 + q)).0 among), final),
    λ (q, reach, final). (q, (lists.members (1 + q)).1 ((copied.first q word (final_within a q final)).1 reach), final),
  )

  pub second_accepts : (word set : List ℕ) → Lists (ReachedBy u word) set → HasFinalFrom b (1 + states a) set ↔ Accepts b word
  second_accepts word set lists = (
    λ (q, among, final). (q, (copied.second q word).0 ((lists.members (1 + states a + q)).0 among), final),
    λ (q, reach, final). (q, (lists.members (1 + states a + q)).1 ((copied.second q word).1 reach), final),
  )

  -- a state of one of the two is reached by v alone
  abbrev InOneOf : List ℕ → List ℕ → Type 0
  InOneOf v w = ((q : ℕ) × Reach a q v × ¬ Reach a q w) ⊎ ((q : ℕ) × Reach b q v × ¬ Reach b q w)

  in_one_of : (v w : List ℕ) → ¬ (v ≡ []) → (n : ℕ) → Reach u n v → ¬ Reach u n w → InOneOf v w
  in_one_of v w some n reached other = elim (cases_lt n 1) [
    | inl first ↦ let start : n ≡ 0 = omega arith in absurd (some ((copied.start v).0 (subst (λ p. Reach u p v) start reached)))
    | inr later ↦ elim (cases_lt n (1 + states a)) [
      | inl below ↦
          let q : ℕ = n - 1 in
          let at : n ≡ 1 + q = omega arith in
          let within : q < states a = omega arith in
          inl (q, (copied.first q v within).0 (subst (λ p. Reach u p v) at reached), λ r. other (subst (λ p. Reach u p w) (sym at) ((copied.first q w within).1 r)))
      | inr above ↦
          let q : ℕ = n - (1 + states a) in
          let at : n ≡ 1 + states a + q = omega arith in
          inr (q, (copied.second q v).0 (subst (λ p. Reach u p v) at reached), λ r. other (subst (λ p. Reach u p w) (sym at) ((copied.second q w).1 r)))
    ]
  ]

  -- words that are apart in the union, and not empty, are apart in one of the two
  pub apart_in_one : (v w : List ℕ) → ¬ (v ≡ []) → ¬ (w ≡ []) → AreApart u v w → AreApart a v w ⊎ AreApart b v w
  apart_in_one v w v_some w_some (n, one) = elim one [
    | inl in_v ↦ elim (in_one_of v w v_some n in_v.0 in_v.1) [
      | inl in_a ↦ inl (in_a.0, inl (in_a.1, in_a.2))
      | inr in_b ↦ inr (in_b.0, inl (in_b.1, in_b.2))
    ]
    | inr in_w ↦ elim (in_one_of w v w_some n in_w.0 in_w.1) [
      | inl in_a ↦ inl (in_a.0, inr (in_a.1, in_a.2))
      | inr in_b ↦ inr (in_b.0, inr (in_b.1, in_b.2))
    ]
  ]
