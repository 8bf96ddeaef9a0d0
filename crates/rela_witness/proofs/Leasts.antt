-- The least number of a set, of two sets, of many.
use Rattle.std.proofs.Common.{◌≡◌, ℕ, ◌+◌, ◌<◌, ◌≤◌, min, ◌⊎◌, List, length, get_or, take, Option, None, Some, sym, subst, inl, inr, arith}
use Rattle.std.proofs.lemmas.Bool.{cases_lt}
use Rattle.rela_witness.specs.Labels.{IsLeast, lesser_of}
use Rattle.rela_witness.specs.Numbered.{After}
use Rattle.rela_witness.proofs.Members.{Contains-nil, taken_cases, taken_before, taken_last, taken_all, taken_within}

pub least_same : (P Q : ℕ → Type 0) (o : Option ℕ) → ((k : ℕ) → P k → Q k) → ((k : ℕ) → Q k → P k) → IsLeast P o → IsLeast Q o
least_same P Q None to back least = λ k holds. least k (back k holds)
least_same P Q (Some j) to back least = (to j least.0, λ k holds. least.1 k (back k holds))

pub least_of_both : (P Q R : ℕ → Type 0) (o r : Option ℕ) → ((k : ℕ) → R k → P k ⊎ Q k) → ((k : ℕ) → P k → R k) → ((k : ℕ) → Q k → R k)
    → IsLeast P o → IsLeast Q r → IsLeast R (lesser_of o r)
least_of_both P Q R None None cases left right first second = λ k holds. elim (cases k holds) [ inl p ↦ first k p | inr q ↦ second k q ]
least_of_both P Q R None (Some k) cases left right first second = (
  right k second.0,
  λ j holds. elim (cases j holds) [ inl p ↦ absurd (first j p) | inr q ↦ second.1 j q ],
)
least_of_both P Q R (Some j) None cases left right first second = (
  left j first.0,
  λ k holds. elim (cases k holds) [ inl p ↦ first.1 k p | inr q ↦ absurd (second k q) ],
)
least_of_both P Q R (Some j) (Some k) cases left right first second = (
  elim (cases_lt j k) [
    | inl less ↦ subst R (let e : j ≡ min j k = omega arith in e) (left j first.0)
    | inr more ↦ subst R (let e : k ≡ min j k = omega arith in e) (right k second.0)
  ],
  λ i holds. elim (cases i holds) [
    | inl p ↦ omega (arith, first.1 i p)
    | inr q ↦ omega (arith, second.1 i q)
  ],
)

module _ {X : Type 0} (Next : X → ℕ → Type 0) (xs : List X) where
  pub least_none : IsLeast (After Next (take 0 xs)) None
  least_none k after = Contains-nil after.0 after.1

  pub least_more : (i : ℕ) (x : X) (o r both : Option ℕ) → i < length xs → x ≡ get_or xs i x → both ≡ lesser_of o r → IsLeast (After Next (take i xs)) o → IsLeast (Next x) r
      → IsLeast (After Next (take (i + 1) xs)) both
  least_more i x o r both below is lesser so_far one =
      subst (IsLeast (After Next (take (i + 1) xs))) (sym lesser)
      (least_of_both (After Next (take i xs)) (Next x) (After Next (take (i + 1) xs)) o r
      (λ k (y, among, next). elim (taken_cases xs i x below is y among) [
        | inl early ↦ inl (y, early, next)
        | inr here ↦ inr (subst (λ (z : X). Next z k) (sym here) next)
      ])
      (λ k (y, among, next). (y, taken_before xs i x below is y among, next)) (λ k next. (x, taken_last xs i x below is, next)) so_far one)

  pub least_all : (i : ℕ) (o : Option ℕ) → length xs ≤ i → IsLeast (After Next (take i xs)) o → IsLeast (After Next xs) o
  least_all i o over =
      least_same (After Next (take i xs)) (After Next xs) o (λ k (x, among, next). (x, taken_within xs i x over among, next)) (λ k (x, among, next). (x, taken_all xs i x over among, next))
