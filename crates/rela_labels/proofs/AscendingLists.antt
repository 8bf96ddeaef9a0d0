-- Lists in which each number is below those after it.
use Rattle.std.proofs.Common.{zero, suc, ◌≡◌, ℕ, ◌<◌, ◌≤◌, ◌↔◌, ◌⊎◌, ◌++◌, List, [], ◌∷◌, length, get_or, Option, MatchOption, Result, Ok, Err, inl, inr, arith, sym, subst, ◌∙◌, eqb}
use Rattle.std.proofs.lemmas.Bool.{cases_eq, cases_lt, cases_order}
use Rattle.std.proofs.lemmas.Cmp.{nat_cmp_total}
use Rattle.std.proofs.lemmas.List.{get_or_default}
use Rattle.std.proofs.lemmas.List.Elements.{Contains-append_left, Contains-append_right, Contains-append_cases, Contains-get_or}
use Rattle.std.proofs.lemmas.List.Kept.{IsStrictlySortedBy-dedup, Contains-dedup_nat, Contains-from_dedup}
use Rattle.std.proofs.lemmas.List.Sorted.{IsPermutation-sym, Contains-permutation, searched}
use Rattle.std.proofs.lemmas.Map.Keys.{below_from_sorted, non_decreasing_from_sorted}
use Rattle.std.specs.Cmp.{unsigned_tied}
use Rattle.std.specs.List.{Contains, dedup}
use Rattle.std.specs.List.Sorted.{IsPermutation, IsSorted, IsBinarySearchResult}
use Rattle.std.specs.Ordering.{nat_cmp}
use Rattle.std.specs.Result.{result_ok}
use Rattle.rela_labels.specs.Apart.{IsAscending}

-- what a sort and a removal of what comes twice leave
pub union_ascending : (sorted all : List ℕ) → IsSorted nat_cmp sorted → all ≡ dedup eqb sorted → IsAscending all
union_ascending sorted all is all_is =
    subst IsAscending (sym all_is) (IsStrictlySortedBy-dedup nat_cmp_total (λ x y. sym (unsigned_tied x y)) sorted is)

pub union_members : (first second joined sorted all : List ℕ) → joined ≡ first ++ second → IsPermutation joined sorted → all ≡ dedup eqb sorted
    → (s : ℕ) → Contains all s ↔ (Contains first s ⊎ Contains second s)
union_members first second joined sorted all joined_is moved all_is s = (
  λ there.
      Contains-append_cases first second s
      (subst (λ xs. Contains xs s) joined_is
      (Contains-permutation sorted joined s (IsPermutation-sym joined sorted moved)
      (Contains-from_dedup eqb sorted s (subst (λ xs. Contains xs s) all_is there)))),
  λ either.
      let both : Contains (first ++ second) s = elim either [
        | inl there ↦ Contains-append_left first second s there
        | inr there ↦ Contains-append_right first second s there
      ] in
      subst (λ xs. Contains xs s) (sym all_is)
      (Contains-dedup_nat sorted s (Contains-permutation joined sorted s moved (subst (λ xs. Contains xs s) (sym joined_is) both))),
)

-- what a search tells
pub place_or_none : (xs : List ℕ) (x : ℕ) (r : Result ℕ ℕ) (place : Option ℕ) → IsAscending xs → IsBinarySearchResult (λ y. nat_cmp y x) xs r
    → place ≡ result_ok r → MatchOption place (Contains xs x → ⊥) (λ i. (i < length xs) × (get_or xs i 0 ≡ x))
place_or_none xs x (Ok i) place is found e =
    subst (λ place. MatchOption place (Contains xs x → ⊥) (λ i. (i < length xs) × (get_or xs i 0 ≡ x))) (sym e)
    (searched xs x (Ok i) found (λ i j before below. non_decreasing_from_sorted xs is i j 0 before below))
place_or_none xs x (Err i) place is found e =
    subst (λ place. MatchOption place (Contains xs x → ⊥) (λ i. (i < length xs) × (get_or xs i 0 ≡ x))) (sym e)
    (λ there. not_here xs x i there (searched xs x (Err i) found (λ i j before below. non_decreasing_from_sorted xs is i j 0 before below)))
  where
    not_here : (xs : List ℕ) (x i : ℕ) → Contains xs x
        → (i ≤ length xs) × ((k : ℕ) → k < i → get_or xs k 0 < x) × ((k : ℕ) → i ≤ k → k < length xs → x < get_or xs k 0) → ⊥
    not_here xs x i (k, within, at) (most, before, after) =
        let same : get_or xs k 0 ≡ x = get_or_default xs k 0 x within ∙ at in
        elim (cases_lt k i) [
          | inl less ↦ let below = before k less in omega arith
          | inr more ↦ let above = after k more within in omega arith
        ]

-- a number stands at one place
pub one_place : (xs : List ℕ) (i j : ℕ) → IsAscending xs → i < length xs → j < length xs → get_or xs i 0 ≡ get_or xs j 0 → i ≡ j
one_place xs i j is i_in j_in same =
    elim (cases_order i j) [
      | inl equal ↦ equal
      | inr apart ↦ elim apart [
        | inl less ↦ let below = below_from_sorted xs i j 0 is less j_in in absurd (omega arith)
        | inr more ↦ let below = below_from_sorted xs j i 0 is more i_in in absurd (omega arith)
      ]
    ]

-- a number is in a list or is not
pub record IsAt (xs : List ℕ) (s i : ℕ) : Type 0 where
  pub within : i < length xs
  pub at : get_or xs i 0 ≡ s

pub at_of : (xs : List ℕ) (s : ℕ) → Contains xs s → (i : ℕ) × IsAt xs s i
at_of xs s (i, within, at) = (i, record { within = within; at = get_or_default xs i 0 s within ∙ at })

pub contained : (xs : List ℕ) (s i : ℕ) → IsAt xs s i → Contains xs s
contained xs s i is = subst (Contains xs) is.at (Contains-get_or xs i 0 is.within)

in_others : (x s : ℕ) (xs : List ℕ) → (x ≡ s → ⊥) → Contains (x ∷ xs) s → Contains xs s
in_others x s xs differ (zero, within, at) = absurd (differ at)
in_others x s xs differ (suc k, within, at) = (k, omega arith, at)

pub in_or_not : (xs : List ℕ) (s : ℕ) → ((i : ℕ) × IsAt xs s i) ⊎ (Contains xs s → ⊥)
in_or_not [] s = inr (λ there. let within = there.1 in absurd (omega arith))
in_or_not (x ∷ xs) s =
    elim (cases_eq x s) [
      | inl same ↦ inl (zero, record { within = omega arith; at = same })
      | inr differ ↦ elim (in_or_not xs s) [
        | inl there ↦ let within = there.1.within in inl (suc there.0, record { within = omega arith; at = there.1.at })
        | inr absent ↦ inr (λ there. absent (in_others x s xs differ there))
      ]
    ]
