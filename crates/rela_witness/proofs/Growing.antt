-- States that are given one number, one after another.
use Rattle.std.proofs.Common.{◌≡◌, ℕ, cond, ◌+◌, ◌<◌, ◌≤◌, List, [], ◌∷◌, ◌++◌, length, get_or, set, replicate, take, Option, None, Some, refl, sym, ap, ◌∙◌, subst, inl, inr, arith, add-zero, append_assoc}
use Rattle.std.specs.Prelude.{is_none}
use Rattle.std.specs.List.{Contains}
use Rattle.std.proofs.lemmas.Bool.{cases_lt, cases_eq}
use Rattle.std.proofs.lemmas.Option.{none-some, same_Some}
use Rattle.std.proofs.lemmas.List.{append-nil, length_push, length-set, length-replicate, get_or_past, get_or_append_left, get_or-replicate, get_or-set_same, get_or-set_other, get_or_default, length-append}
use Rattle.std.proofs.lemmas.List.Elements.{Contains-append_left, Contains-append_cases, Contains-push, Contains-get_or}
use Rattle.std.proofs.lemmas.List.Folds.{sum_by-replicate}
use Rattle.std.proofs.lemmas.List.Sums.{sum_by-set}
use Rattle.rela_witness.specs.Numbered.{number_of, HasNumber, unnumbered, IsLayer, Grows, Spread, here, step, After, IsDone}
use Rattle.rela_witness.proofs.Members.{Contains-nil, Contains-one, taken_cases, taken_before, taken_last, taken_all, taken_within}

-- no number that is no state has a number
pub number_within : (numbers : List (Option ℕ)) (q n : ℕ) → number_of numbers q ≡ Some n → q < length numbers
number_within numbers q n is = elim (cases_lt q (length numbers)) [
  | inl below ↦ below
  | inr past ↦ absurd (none-some n (sym (get_or_past numbers q None past) ∙ is))
]

-- none of these has a number
module _ (count : ℕ) (numbers : List (Option ℕ)) (none : numbers ≡ replicate count None) where
  pub none_number : (q n : ℕ) → number_of numbers q ≡ Some n → ⊥
  none_number q n is = elim (cases_lt q count) [
    | inl below ↦ none-some n (sym (ap (λ l. get_or l q None) none ∙ get_or-replicate count q None None below) ∙ is)
    | inr past ↦ absurd (let within = number_within numbers q n is in omega (arith, ap length none, length-replicate {A = Option ℕ} count None))
  ]

  pub none_count : unnumbered numbers ≡ count
  none_count = ap unnumbered none ∙ (let all = sum_by-replicate (λ (o : Option ℕ). cond (is_none o) 1 0) count None in omega (arith, all))

pub grows_not : (P : ℕ → Type 0) (number : ℕ) (numbers : List (Option ℕ)) (layer : List ℕ) → Grows P number numbers numbers layer layer
grows_not P number numbers layer = record {
  count = refl;
  kept = λ q n is. is;
  only = λ q n is. inl is;
  longer = ([], sym (append-nil layer), λ q c. absurd (Contains-nil q c));
  balance = refl;
}

-- one state that had no number
pub grows_one : (number : ℕ) (numbers : List (Option ℕ)) (layer : List ℕ) (q : ℕ) → q < length numbers → number_of numbers q ≡ None
    → Grows (λ p. q ≡ p) number numbers (set numbers q (Some number)) layer (layer ++ q ∷ [])
grows_one number numbers layer q within lacks =
    let new = set numbers q (Some number) in
    let here_is : number_of new q ≡ Some number = get_or-set_same numbers q (Some number) None within in
    record {
      count = length-set numbers q (Some number);
      kept = λ p n is. elim (cases_eq p q) [
        | inl same ↦ absurd (none-some n (sym lacks ∙ subst (λ r. number_of numbers r ≡ Some n) same is))
        | inr apart ↦ get_or-set_other numbers q p (Some number) None apart ∙ is
      ];
      only = λ p n is. elim (cases_eq p q) [
        | inl same ↦ inr (
          same_Some n number (sym (subst (λ r. number_of new r ≡ Some n) same is) ∙ here_is),
          sym same,
          subst (λ r. Contains (layer ++ q ∷ []) r) (sym same) (Contains-push layer q),
        )
        | inr apart ↦ inl (sym (get_or-set_other numbers q p (Some number) None apart) ∙ is)
      ];
      longer = (q ∷ [], refl, λ p c. subst (λ r. number_of new r ≡ Some number) (Contains-one q p c) here_is);
      balance =
          let one_less : unnumbered new + 1 ≡ unnumbered numbers =
          rw lacks at (sum_by-set (λ (o : Option ℕ). cond (is_none o) 1 0) numbers q (Some number) None within) ∙ add-zero (unnumbered numbers) in
          let l = length_push layer q in
          omega arith;
    }

module _ (P Q : ℕ → Type 0) (number : ℕ) (old new : List (Option ℕ)) (before after : List ℕ) (grows : Grows P number old new before after) where
  pub has_kept : (q : ℕ) → HasNumber old q → HasNumber new q
  has_kept q has = (has.0, grows.kept q has.0 has.1)

  pub stays : (q : ℕ) → Contains before q → Contains after q
  stays q c = subst (λ (l : List ℕ). Contains l q) (sym grows.longer.1) (Contains-append_left before grows.longer.0 q c)

  pub same_place : (k : ℕ) → k < length before → get_or after k 0 ≡ get_or before k 0
  same_place k below = ap (λ l. get_or l k 0) grows.longer.1 ∙ get_or_append_left before grows.longer.0 0 k below

  pub no_shorter : length before ≤ length after
  no_shorter = omega (arith, ap length grows.longer.1, length-append before grows.longer.0)

  pub grows_weaker : ((q : ℕ) → P q → Q q) → Grows Q number old new before after
  grows_weaker weaker = record {
    count = grows.count;
    kept = grows.kept;
    only = λ q n is. elim (grows.only q n is) [ inl was ↦ inl was | inr (same, holds, listed) ↦ inr (same, weaker q holds, listed) ];
    longer = grows.longer;
    balance = grows.balance;
  }

  pub layer_grown : IsLayer number old before → IsLayer number new after
  layer_grown layer q = (
    λ c. elim (Contains-append_cases before grows.longer.0 q (subst (λ (l : List ℕ). Contains l q) grows.longer.1 c)) [
      | inl was ↦ grows.kept q number ((layer q).0 was)
      | inr more ↦ grows.longer.2 q more
    ],
    λ is. elim (grows.only q number is) [ inl was ↦ stays q ((layer q).1 was) | inr new ↦ new.2 ],
  )

  -- what was put into the layer is a state
  pub layer_within : IsLayer number old before → (q : ℕ) → Contains after q → q < length old
  layer_within layer q c =
      let within = number_within new q number ((layer_grown layer q).0 c) in
      omega (arith, grows.count, within)

-- one after the other
pub grows_both : (P Q R : ℕ → Type 0) (number : ℕ) (old mid new : List (Option ℕ)) (before half after : List ℕ) → Grows P number old mid before half → Grows Q number mid new half after
    → ((q : ℕ) → P q → R q) → ((q : ℕ) → Q q → R q) → Grows R number old new before after
grows_both P Q R number old mid new before half after first second left right = record {
  count = second.count ∙ first.count;
  kept = λ q n is. second.kept q n (first.kept q n is);
  only = λ q n is. elim (second.only q n is) [
    | inl was ↦ elim (first.only q n was) [ inl first_was ↦ inl first_was | inr (same, holds, listed) ↦ inr (same, left q holds, stays Q Q number mid new half after second q listed) ]
    | inr (same, holds, listed) ↦ inr (same, right q holds, listed)
  ];
  longer = (
    first.longer.0 ++ second.longer.0,
    second.longer.1 ∙ ap (λ l. l ++ second.longer.0) first.longer.1 ∙ append_assoc before first.longer.0 second.longer.0,
    λ q c. elim (Contains-append_cases first.longer.0 second.longer.0 q c) [
      | inl early ↦ second.kept q number (first.longer.2 q early)
      | inr late ↦ second.longer.2 q late
    ],
  );
  balance = second.balance ∙ first.balance;
}

-- what follows the first `done` of some things has been entered
pub record Passing {X : Type 0} (Next : X → ℕ → Type 0) (number : ℕ) (old now : List (Option ℕ)) (before layer : List ℕ) (xs : List X) (done : ℕ) : Type 0 where
  pub grows : Grows (After Next (take done xs)) number old now before layer
  pub followed : (x : X) (q : ℕ) → Contains (take done xs) x → Next x q → HasNumber now q

module _ {X : Type 0} (Next : X → ℕ → Type 0) (number : ℕ) (old : List (Option ℕ)) (before : List ℕ) (xs : List X) where
  pub passing_none : Passing Next number old old before before xs 0
  passing_none = record { grows = grows_not _ number old before; followed = λ x q c next. absurd (Contains-nil x c) }

  pub passing_more : (now new : List (Option ℕ)) (layer after : List ℕ) (done : ℕ) (x : X) → done < length xs → x ≡ get_or xs done x → Passing Next number old now before layer xs done
      → Grows (Next x) number now new layer after → ((q : ℕ) → Next x q → HasNumber new q) → Passing Next number old new before after xs (done + 1)
  passing_more now new layer after done x below is so_far grows entered = record {
    grows =
        grows_both (After Next (take done xs)) (Next x) (After Next (take (done + 1) xs)) number old now new before layer after so_far.grows grows
        (λ q (y, c, next). (y, taken_before xs done x below is y c, next)) (λ q next. (x, taken_last xs done x below is, next));
    followed = λ y q c next. elim (taken_cases xs done x below is y c) [
      | inl early ↦ has_kept (Next x) (Next x) number now new layer after grows q (so_far.followed y q early next)
      | inr same ↦ entered q (subst (λ (z : X). Next z q) (sym same) next)
    ];
  }

  -- a thing that nothing is entered for
  pub passing_past : (now : List (Option ℕ)) (layer : List ℕ) (done : ℕ) (x : X) → done < length xs → x ≡ get_or xs done x → Passing Next number old now before layer xs done
      → ((q : ℕ) → Next x q → ⊥) → Passing Next number old now before layer xs (done + 1)
  passing_past now layer done x below is so_far none =
      passing_more now now layer layer done x below is so_far (grows_not (Next x) number now layer) (λ q next. absurd (none q next))

  pub passed_all : (now : List (Option ℕ)) (layer : List ℕ) (done : ℕ) → length xs ≤ done → Passing Next number old now before layer xs done
      → Grows (After Next xs) number old now before layer × ((x : X) (q : ℕ) → Contains xs x → Next x q → HasNumber now q)
  passed_all now layer done over so_far = (
    grows_weaker (After Next (take done xs)) (After Next xs) number old now before layer so_far.grows (λ q (x, c, next). (x, taken_within xs done x over c, next)),
    λ x q c next. so_far.followed x q (taken_all xs done x over c) next,
  )

-- what follows the first `done` of a growing layer has been entered into it
pub record Closing (Next : ℕ → ℕ → Type 0) (number : ℕ) (old now : List (Option ℕ)) (before layer : List ℕ) (done : ℕ) : Type 0 where
  pub grows : Grows (Spread Next (Contains before)) number old now before layer
  pub followed : (k q : ℕ) → k < done → Next (get_or layer k 0) q → HasNumber now q

module _ (Next : ℕ → ℕ → Type 0) (number : ℕ) (old : List (Option ℕ)) (before : List ℕ) where
  pub closing_none : Closing Next number old old before before 0
  closing_none = record { grows = grows_not _ number old before; followed = λ k q below. absurd (omega arith) }

  -- all of the layer was led to
  pub all_spread : (now : List (Option ℕ)) (layer : List ℕ) → IsLayer number old before → Grows (Spread Next (Contains before)) number old now before layer
      → (q : ℕ) → Contains layer q → Spread Next (Contains before) q
  all_spread now layer first grows q c =
      elim (grows.only q number ((layer_grown (Spread Next (Contains before)) (Contains before) number old now before layer grows first q).0 c)) [
        | inl was ↦ here ((first q).1 was)
        | inr new ↦ new.1
      ]

  pub closing_more : (now new : List (Option ℕ)) (layer after : List ℕ) (done p : ℕ) → IsLayer number old before → done < length layer → p ≡ get_or layer done 0
      → Closing Next number old now before layer done → Grows (Next p) number now new layer after → ((q : ℕ) → Next p q → HasNumber new q)
      → Closing Next number old new before after (done + 1)
  closing_more now new layer after done p first below is so_far grows entered =
      let led : Spread Next (Contains before) p = all_spread now layer first so_far.grows p (subst (λ n. Contains layer n) (sym is) (Contains-get_or layer done 0 below)) in
      record {
        grows =
            grows_both (Spread Next (Contains before)) (Next p) (Spread Next (Contains before)) number old now new before layer after so_far.grows grows
            (λ q s. s) (λ q next. step led next);
        followed = λ k q less next. elim (cases_lt k done) [
          | inl early ↦
              has_kept (Next p) (Next p) number now new layer after grows q
              (so_far.followed k q early (subst (λ n. Next n q) (same_place (Next p) (Next p) number now new layer after grows k (omega arith)) next))
          | inr late ↦
              let same : k ≡ done = omega arith in
              entered q (subst (λ n. Next n q) (ap (λ j. get_or after j 0) same ∙ same_place (Next p) (Next p) number now new layer after grows done below ∙ sym is) next)
        ];
      }

  pub closed_all : (now : List (Option ℕ)) (layer : List ℕ) (done : ℕ) → length layer ≤ done → Closing Next number old now before layer done → IsDone Next now layer
  closed_all now layer done over so_far p q c next =
      so_far.followed c.0 q (omega (arith, c.1, over)) (subst (λ n. Next n q) (sym (get_or_default layer c.0 0 p c.1 ∙ c.2)) next)

  -- the layer can't outgrow the states
  pub closing_bounded : (now : List (Option ℕ)) (layer : List ℕ) (done : ℕ) → Closing Next number old now before layer done → length layer ≤ length before + unnumbered old
  closing_bounded now layer done so_far = omega (arith, so_far.grows.balance)
