-- Lists of names that ascend by bytes.
use Rattle.std.proofs.Common.{zero, suc, ◌-◌, ◌≡◌, ◌≢◌, ℕ, ◌+◌, ◌<◌, true, false, List, length, get_or, Some, slice_get, inl, inr, arith, refl, sym, ap, ◌∙◌}
use Rattle.std.specs.declared.cmp.Ordering.{Ordering}
use Rattle.std.specs.declared.cmp.Ordering.TheVariants.{Less, Equal, Greater}
use Rattle.std.specs.Ordering.{is_lt, is_eq, ordering_reverse, ordering_index}
use Rattle.std.specs.List.{All, AllAdjacentBelow, HoldsAt}
use Rattle.std.specs.List.Sorted.{IsStrictlySortedBy, IsSorted, IsNonDecreasingBy, IsPartitionPoint}
use Rattle.std.proofs.lemmas.Cmp.{nat_list_cmp_total}
use Rattle.std.proofs.lemmas.List.Sorted.{searchable_from_sorted}
use Rattle.std.proofs.lemmas.Bool.{cases_lt}
use Rattle.std.proofs.lemmas.Option.{slice_get_cases, get_or_from_slice_get, slice_get-get_or}
use Rattle.std.proofs.lemmas.Map.Keys.{Less-from_sorted}
use Rattle.std.proofs.lemmas.Map.Text.{is_eq-slice_cmp}
use Rattle.std.proofs.lemmas.Slice.Eq.{bytes_eq-Decides}
use Rattle.rela_names.specs.Name.{bytes_cmp, IsBytesBefore, IsAscending}

-- what `cmp` calls equal is equal
pub same_bytes : (a b : List ℕ) → bytes_cmp a b ≡ Equal → a ≡ b
same_bytes a b e = (bytes_eq-Decides a b).0 (sym (is_eq-slice_cmp a b) ∙ ap is_eq e)

pub no_name_before_itself : (a : List ℕ) → bytes_cmp a a ≡ Equal
no_name_before_itself a =
    let both : is_eq (bytes_cmp a a) ≡ true = is_eq-slice_cmp a a ∙ (bytes_eq-Decides a a).1 refl in
    elim (bytes_cmp a a) as (λ o. is_eq o ≡ true → o ≡ Equal) [ Less ↦ λ h. cc | Equal ↦ λ h. refl | Greater ↦ λ h. cc ] both

not_less_back : (o : Ordering) → is_lt (ordering_reverse o) ≡ false → ¬ (o ≡ Equal) → o ≡ Less
not_less_back Less h apart = refl
not_less_back Equal h apart = absurd (apart refl)
not_less_back Greater h apart = cc

-- each name is before the next
neighbours_ascend : (names : List (List ℕ)) → IsSorted bytes_cmp names → AllAdjacentBelow (λ a b. a ≢ b) names (length names)
    → AllAdjacentBelow IsBytesBefore names (length names)
neighbours_ascend names sorted distinct k d within =
    let a : List ℕ = get_or names k d in
    let b : List ℕ = get_or names (k + 1) d in
    not_less_back (bytes_cmp a b) (ap is_lt (sym (nat_list_cmp_total.antisymm b a)) ∙ sorted k d (omega arith) within)
    (λ e. distinct k d within (same_bytes a b e))

-- where each is before the next, each is before all later ones
later_ascend : (names : List (List ℕ)) → AllAdjacentBelow IsBytesBefore names (length names) → (i n j : ℕ) (d : List ℕ)
    → j ≡ (i + n) + 1 → j < length names → IsBytesBefore (get_or names i d) (get_or names j d)
later_ascend names next i zero j d is within =
    let next_is : j ≡ i + 1 = omega arith in
    rw next_is (next i d (omega arith))
later_ascend names next i (suc n) j d is within =
    let k : ℕ = (i + n) + 1 in
    let next_is : j ≡ k + 1 = omega arith in
    let before : IsBytesBefore (get_or names i d) (get_or names k d) = later_ascend names next i n k d refl (omega arith) in
    let after : IsBytesBefore (get_or names k d) (get_or names j d) = rw next_is (next k d (omega arith)) in
    nat_list_cmp_total.trans (get_or names i d) (get_or names k d) (get_or names j d) before after

pub ascending_from_neighbours : (names : List (List ℕ)) → AllAdjacentBelow IsBytesBefore names (length names) → IsAscending names
ascending_from_neighbours names next i j d below within =
    later_ascend names next i (j - (i + 1)) j d (omega arith) within

-- a sorted list without repetitions ascends
pub ascending_from_sorted : (names : List (List ℕ)) → IsSorted bytes_cmp names → AllAdjacentBelow (λ a b. a ≢ b) names (length names)
    → IsAscending names
ascending_from_sorted names sorted distinct = ascending_from_neighbours names (neighbours_ascend names sorted distinct)

-- so does a list in the order of an ordered map's keys
pub ascending_from_keys : (names : List (List ℕ)) → IsStrictlySortedBy bytes_cmp names → IsAscending names
ascending_from_keys names sorted i j d below within = Less-from_sorted bytes_cmp names i j d sorted below within

-- an ascending list is sorted
pub sorted_from_ascending : (names : List (List ℕ)) → IsAscending names → IsSorted bytes_cmp names
sorted_from_ascending names ascending k d low within =
    let up = ascending k (k + 1) d (omega arith) (omega arith) in
    ap is_lt (nat_list_cmp_total.antisymm (get_or names (k + 1) d) (get_or names k d)) ∙ ap (λ o. is_lt (ordering_reverse o)) up

-- a binary search for a name may compare by it
pub searchable : (names : List (List ℕ)) (name : List ℕ) → IsAscending names → IsNonDecreasingBy (λ other. ordering_index (bytes_cmp other name)) names
searchable names name ascending = searchable_from_sorted nat_list_cmp_total (λ x. x) names name (sorted_from_ascending names ascending)

-- a name stands at one place alone
pub one_place : (names : List (List ℕ)) (name : List ℕ) (i j : ℕ) → IsAscending names → slice_get names i ≡ Some name → slice_get names j ≡ Some name → i ≡ j
one_place names name i j ascending at_i at_j =
    let in_i : i < length names = within names i name at_i in
    let in_j : j < length names = within names j name at_j in
    let i_is : get_or names i name ≡ name = get_or_from_slice_get names i name name at_i in
    let j_is : get_or names j name ≡ name = get_or_from_slice_get names j name name at_j in
    elim (cases_lt i j) [
      | inl below ↦ absurd (apart name _ _ i_is j_is (ascending i j name below in_j))
      | inr above ↦ elim (cases_lt j i) [
        | inl below ↦ absurd (apart name _ _ j_is i_is (ascending j i name below in_i))
        | inr same ↦ omega arith
      ]
    ]
  where
    within : (names : List (List ℕ)) (i : ℕ) (name : List ℕ) → slice_get names i ≡ Some name → i < length names
    within names i name e = elim ((slice_get_cases names i).1) [ inl r ↦ r.1 | inr r ↦ cc ]

    apart : (name a b : List ℕ) → a ≡ name → b ≡ name → ¬ IsBytesBefore a b
    apart name a b p q before = let same = no_name_before_itself name in cc

-- what a binary search that found a place says
pub found_at : (names : List (List ℕ)) (name : List ℕ) (i : ℕ) → i < length names → HoldsAt (λ other. bytes_cmp other name ≡ Equal) names i → slice_get names i ≡ Some name
found_at names name i within equal = slice_get-get_or names i name within ∙ ap Some (same_bytes _ name (equal name))

-- where a name stands, no other place has it
pub found_exactly : (names : List (List ℕ)) (name : List ℕ) (i : ℕ) → IsAscending names → slice_get names i ≡ Some name → (s : ℕ) → (Some i ≡ Some s → slice_get names s ≡ Some name) × (slice_get names s ≡ Some name → Some i ≡ Some s)
found_exactly names name i ascending found s = (
  λ e. let same : i ≡ s = cc in rw (← same) found,
  λ e. ap Some (one_place names name i s ascending found e),
)

-- what a binary search that found none says
pub found_nowhere : (names : List (List ℕ)) (name : List ℕ) (i : ℕ) → IsPartitionPoint (λ other. bytes_cmp other name ≡ Less) (λ other. bytes_cmp other name ≡ Greater) names i → All (λ other. other ≢ name) names
found_nowhere names name i split k d within same =
    let equal : bytes_cmp (get_or names k d) name ≡ Equal = rw same (no_name_before_itself name) in
    elim (cases_lt k i) [
      | inl below ↦ let less : bytes_cmp (get_or names k d) name ≡ Less = split.0 k d (omega arith) below in cc
      | inr above ↦ let greater : bytes_cmp (get_or names k d) name ≡ Greater = split.1 k d above within in cc
    ]

pub nowhere : (names : List (List ℕ)) (name : List ℕ) → All (λ other. other ≢ name) names → (s : ℕ) → slice_get names s ≡ Some name → ⊥
nowhere names name absent s e =
    elim ((slice_get_cases names s).1) [
      | inl r ↦ absent s name r.1 (get_or_from_slice_get names s name name e)
      | inr r ↦ cc
    ]
