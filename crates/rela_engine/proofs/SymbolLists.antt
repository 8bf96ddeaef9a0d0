-- Numbers that ascend, and the symbols that lead to a state.
use Rattle.std.proofs.Common.{zero, suc, ◌≡◌, ◌∙◌, ℕ, ◌+◌, ◌<◌, ◌≤◌, ◌↔◌, ◌⊎◌, ◌==◌, ◌&&◌, ◌++◌, Bool, true, false, not, cond, List, [], ◌∷◌, Ok, Err, length, get_or, set, map, replicate, refl, sym, ap, subst, inl, inr, arith, eqb}
use Rattle.std.specs.List.{All, Contains, dedup, filter, list_any, range_with_len}
use Rattle.std.specs.List.Sorted.{IsBinarySearchResult, IsPermutation, IsSorted}
use Rattle.std.specs.Cmp.{unsigned_tied}
use Rattle.std.specs.Ordering.{nat_cmp}
use Rattle.std.proofs.lemmas.Bool.{cases_eq, cases_lt, eqb-true, eq-eqb, ne_eqb, false≢true}
use Rattle.std.proofs.lemmas.Cmp.{nat_cmp_total}
use Rattle.std.proofs.lemmas.List.{append-nil, ext_get_or, get_or-map, get_or-set_other, get_or-set_same, get_or_default, length-map, length-set, map-id}
use Rattle.std.proofs.lemmas.List.Elements.{All-filter, Contains-append_cases, Contains-get_or, filter_passes}
use Rattle.std.proofs.lemmas.List.Folds.{Any-from_list_any, list_any_at}
use Rattle.std.proofs.lemmas.List.FromFn.{filter_of_map_range_with_len_more, get_or-range_with_len, length-range_with_len, map-range_with_len_more}
use Rattle.std.proofs.lemmas.List.Kept.{Contains-dedup_nat, Contains-from_dedup, IsStrictlySortedBy-dedup, IsStrictlySortedBy-filter}
use Rattle.std.proofs.lemmas.List.Sorted.{Contains-permutation, IsPermutation-filter_both, IsPermutation-sym, searched}
use Rattle.std.proofs.lemmas.Map.Keys.{below_from_sorted, non_decreasing_from_sorted, sorted_from_strictly_increasing, sorted_tail}
use Rattle.rela_labels.specs.Apart.{IsAscending}
use Rattle.rela_engine.specs.AutomatonText.{is_besides, symbols_below, symbols_to, targets_besides}

-- ---- numbers that ascend are told by which there are

here : (x : ℕ) (xs : List ℕ) → Contains (x ∷ xs) x
here x xs = (0, omega arith, refl)

later : (x y : ℕ) (xs : List ℕ) → Contains xs y → Contains (x ∷ xs) y
later x y xs (k, within, at) = (suc k, omega (arith, within), at)

none : (x : ℕ) → Contains [] x → ⊥
none x (k, within, at) = omega (arith, within)

first_or_later : (x y : ℕ) (xs : List ℕ) → Contains (x ∷ xs) y → (x ≡ y) ⊎ Contains xs y
first_or_later x y xs (zero, within, at) = inl at
first_or_later x y xs (suc k, within, at) = inr (k, omega (arith, within), at)

first_below : (x y : ℕ) (xs : List ℕ) → IsAscending (x ∷ xs) → Contains xs y → x < y
first_below x y xs is (k, within, at) =
    let less : x < get_or xs k y = below_from_sorted (x ∷ xs) 0 (suc k) y is (omega arith) (omega (arith, within)) in
    omega (arith, less, at)

first_least : (x y : ℕ) (xs : List ℕ) → IsAscending (x ∷ xs) → Contains (x ∷ xs) y → x ≤ y
first_least x y xs is there = elim (first_or_later x y xs there) [
  | inl same ↦ omega (arith, same)
  | inr other ↦ (let less = first_below x y xs is other in omega (arith, less))
]

-- a number of the rest is one of the other rest
in_rest : (x y z : ℕ) (xs ys : List ℕ) → x ≡ y → IsAscending (x ∷ xs) → ((z : ℕ) → Contains (x ∷ xs) z → Contains (y ∷ ys) z) → Contains xs z → Contains ys z
in_rest x y z xs ys heads is on there = elim (first_or_later y z ys (on z (later x z xs there))) [
  | inl same ↦ (let less = first_below x z xs is there in absurd (omega (arith, less, heads, same)))
  | inr other ↦ other
]

pub same_numbers : (xs ys : List ℕ) → IsAscending xs → IsAscending ys → ((x : ℕ) → Contains xs x ↔ Contains ys x) → xs ≡ ys
same_numbers [] [] a b same = refl
same_numbers [] (y ∷ ys) a b same = absurd (none y ((same y).1 (here y ys)))
same_numbers (x ∷ xs) [] a b same = absurd (none x ((same x).0 (here x xs)))
same_numbers (x ∷ xs) (y ∷ ys) a b same =
    let low = first_least y x ys b ((same x).0 (here x xs)) in
    let high = first_least x y xs a ((same y).1 (here y ys)) in
    let heads : x ≡ y = omega (arith, low, high) in
    let rests = same_numbers xs ys (sorted_tail nat_cmp x xs a) (sorted_tail nat_cmp y ys b) (λ z. (
      in_rest x y z xs ys heads a (λ w. (same w).0),
      in_rest y x z ys xs (sym heads) b (λ w. (same w).1),
    )) in
    (λ i. heads i ∷ rests i)

-- ---- what a filter keeps

pub kept : (p : ℕ → Bool) (xs : List ℕ) (x : ℕ) → Contains xs x → p x ≡ true → Contains (filter p xs) x
kept p xs x there passes =
    elim (Contains-append_cases (filter p xs) (filter (λ y. not (p y)) xs) x
    (Contains-permutation xs (filter p xs ++ filter (λ y. not (p y)) xs) x (IsPermutation-filter_both p (λ y. not (p y)) (λ y. refl) xs) there)) [
      | inl is ↦ is
      | inr (k, within, at) ↦
          absurd (false≢true (sym (ap not passes) ∙ subst (λ y. not (p y) ≡ true) at (filter_passes (λ y. not (p y)) xs k x within)))
    ]

pub passes : (p : ℕ → Bool) (xs : List ℕ) (x : ℕ) → Contains (filter p xs) x → p x ≡ true
passes p xs x (k, within, at) = subst (λ y. p y ≡ true) at (filter_passes p xs k x within)

pub was_there : (p : ℕ → Bool) (xs : List ℕ) (x : ℕ) → Contains (filter p xs) x → Contains xs x
was_there p xs x (k, within, at) =
    subst (λ y. Contains xs y) at (All-filter p (λ y. Contains xs y) xs (λ i d below. Contains-get_or xs i d below) k x within)

in_range : (n x : ℕ) → x < n → Contains (range_with_len 0 n) x
in_range n x below = (x, omega (arith, below, length-range_with_len 0 n), omega (arith, get_or-range_with_len 0 n x x below))

below_range : (n x : ℕ) → Contains (range_with_len 0 n) x → x < n
below_range n x (k, within, at) =
    let inside : k < n = omega (arith, within, length-range_with_len 0 n) in
    omega (arith, inside, at, get_or-range_with_len 0 n k x inside)

range_ascends : (n : ℕ) → IsAscending (range_with_len 0 n)
range_ascends n =
    sorted_from_strictly_increasing (range_with_len 0 n) (λ k within.
    (let inside : k + 1 < n = omega (arith, within, length-range_with_len 0 n) in
    omega (arith, get_or-range_with_len 0 n k 0 (omega (arith, inside)), get_or-range_with_len 0 n (k + 1) 0 inside)))

both_true : (a b : Bool) → (a && b) ≡ true → (a ≡ true) × (b ≡ true)
both_true true true e = (refl, refl)
both_true true false e = absurd (false≢true e)
both_true false b e = absurd (false≢true e)

true_both : (a b : Bool) → a ≡ true → b ≡ true → (a && b) ≡ true
true_both true true a_is b_is = refl
true_both true false a_is b_is = absurd (false≢true b_is)
true_both false b a_is b_is = absurd (false≢true a_is)

-- ---- the targets of a row, without another

pub ascends : (sorted all : List ℕ) → IsSorted nat_cmp sorted → all ≡ dedup eqb sorted → IsAscending all
ascends sorted all is all_is =
    subst IsAscending (sym all_is) (IsStrictlySortedBy-dedup nat_cmp_total (λ x y. sym (unsigned_tied x y)) sorted is)

module _ (row : List ℕ) (other : ℕ) where
  listed : (to : ℕ) → Contains row to → list_any (λ t. t == to) row ≡ true
  listed to (k, within, at) = list_any_at (λ t. t == to) row k to within (eq-eqb (get_or row k to) to at)

  from_listed : (to : ℕ) → list_any (λ t. t == to) row ≡ true → Contains row to
  from_listed to some =
      let (k, y, within, at, same) = Any-from_list_any (λ t. t == to) row some in
      (k, within, get_or_default row k to y within ∙ at ∙ eqb-true y to same)

  -- what is left of the row after a filter, a sort, and the removal of what comes twice
  pub besides : (others sorted all : List ℕ) → others ≡ filter (λ to. not (to == other)) row → IsSorted nat_cmp sorted → IsPermutation others sorted → all ≡ dedup eqb sorted
      → (states : ℕ) → All (λ to. to < states) row → all ≡ targets_besides states row other
  besides others sorted all others_are is moved all_is states below =
      same_numbers all (targets_besides states row other) (ascends sorted all is all_is)
      (IsStrictlySortedBy-filter nat_cmp (is_besides row other) (range_with_len 0 states) (range_ascends states))
      (λ to. (
        λ there.
            (let in_sorted = Contains-from_dedup eqb sorted to (subst (λ (xs : List ℕ). Contains xs to) all_is there) in
            let in_others = Contains-permutation sorted others to (IsPermutation-sym others sorted moved) in_sorted in
            let left : Contains (filter (λ t. not (t == other)) row) to = subst (λ (xs : List ℕ). Contains xs to) others_are in_others in
            let in_row = was_there (λ t. not (t == other)) row to left in
            let (k, within, at) = in_row in
            let under : to < states = subst (λ t. t < states) at (below k to within) in
            kept (is_besides row other) (range_with_len 0 states) to (in_range states to under)
            (true_both (not (to == other)) (list_any (λ t. t == to) row) (passes (λ t. not (t == other)) row to left) (listed to in_row))),
        λ there.
            (let both = both_true (not (to == other)) (list_any (λ t. t == to) row) (passes (is_besides row other) (range_with_len 0 states) to there) in
            let left = kept (λ t. not (t == other)) row to (from_listed to both.1) both.0 in
            let in_others = subst (λ (xs : List ℕ). Contains xs to) (sym others_are) left in
            subst (λ (xs : List ℕ). Contains xs to) (sym all_is)
            (Contains-dedup_nat sorted to (Contains-permutation others sorted to moved in_others))),
      ))

-- ---- the symbols that lead to a target

pub symbols_more : (row : List ℕ) (n to : ℕ) → symbols_below row (n + 1) to ≡ symbols_below row n to ++ cond (get_or row n 0 == to) (n ∷ []) []
symbols_more row n to =
    let p : ℕ → Bool = λ s. get_or row s 0 == to in
    ap (filter p) (sym (map-id (range_with_len 0 (n + 1))))
    ∙ filter_of_map_range_with_len_more p (λ (s : ℕ). s) 0 n n (omega arith)
    ∙ ap (λ (l : List ℕ). filter p l ++ cond (p n) (n ∷ []) []) (map-id (range_with_len 0 n))

-- each symbol of a list is one of the row
pub symbols_in : (row : List ℕ) (to : ℕ) → All (λ s. s < length row) (symbols_to row to)
symbols_in row to =
    All-filter (λ s. get_or row s 0 == to) (λ s. s < length row) (range_with_len 0 (length row))
    (λ k d within.
    (let inside : k < length row = omega (arith, within, length-range_with_len 0 (length row)) in
    omega (arith, inside, get_or-range_with_len 0 (length row) k d inside)))

one_place : (xs : List ℕ) (i j : ℕ) → IsAscending xs → i < length xs → j < length xs → get_or xs i 0 ≡ get_or xs j 0 → i ≡ j
one_place xs i j is i_in j_in same =
    elim (cases_lt i j) [
      | inl less ↦ (let below = below_from_sorted xs i j 0 is less j_in in absurd (omega (arith, below, same)))
      | inr more ↦ elim (cases_lt j i) [
        | inl less ↦ (let below = below_from_sorted xs j i 0 is less i_in in absurd (omega (arith, below, same)))
        | inr other ↦ omega (arith, more, other)
      ]
    ]

module _ (targets : List ℕ) (is : IsAscending targets) (symbols : ℕ → List ℕ) (to symbol : ℕ) where
  abbrev more : ℕ → List ℕ
  more t = symbols t ++ cond (to == t) (symbol ∷ []) []

  other_more : (t : ℕ) → (to ≡ t → ⊥) → symbols t ≡ more t
  other_more t differ = sym (append-nil (symbols t)) ∙ ap (λ (b : Bool). symbols t ++ cond b (symbol ∷ []) []) (sym (ne_eqb to t differ))

  own_more : (t : ℕ) → to ≡ t → symbols t ++ symbol ∷ [] ≡ more t
  own_more t same = ap (λ (b : Bool). symbols t ++ cond b (symbol ∷ []) []) (sym (eq-eqb to t same))

  pub put_at : (lists : List (List ℕ)) (place : ℕ) → place < length targets → get_or targets place 0 ≡ to → lists ≡ map symbols targets
      → set lists place (get_or lists place [] ++ symbol ∷ []) ≡ map more targets
  put_at lists place within at lists_are =
      ext_get_or [] (set lists place (get_or lists place [] ++ symbol ∷ [])) (map more targets)
      (length-set lists place (get_or lists place [] ++ symbol ∷ []) ∙ long ∙ sym (length-map targets more)) each
    where
      long : length lists ≡ length targets
      long = ap length lists_are ∙ length-map targets symbols

      old : (i : ℕ) → i < length targets → get_or lists i [] ≡ symbols (get_or targets i 0)
      old i inside = ap (λ (l : List (List ℕ)). get_or l i []) lists_are ∙ get_or-map symbols targets i 0 [] inside

      each : (i : ℕ) → i < length (set lists place (get_or lists place [] ++ symbol ∷ [])) → get_or (set lists place (get_or lists place [] ++ symbol ∷ [])) i [] ≡ get_or (map more targets) i []
      each i below =
          let inside : i < length targets = omega (arith, below, length-set lists place (get_or lists place [] ++ symbol ∷ []), long) in
          elim (cases_eq i place) [
            | inl same ↦
                ap (λ (j : ℕ). get_or (set lists place (get_or lists place [] ++ symbol ∷ [])) j []) same
                ∙ get_or-set_same lists place (get_or lists place [] ++ symbol ∷ []) [] (omega (arith, within, long))
                ∙ ap (λ (l : List ℕ). l ++ symbol ∷ []) (old place within)
                ∙ own_more (get_or targets place 0) (sym at)
                ∙ ap (λ (j : ℕ). more (get_or targets j 0)) (sym same)
                ∙ sym (get_or-map more targets i 0 [] inside)
            | inr differ ↦
                get_or-set_other lists place i (get_or lists place [] ++ symbol ∷ []) [] differ
                ∙ old i inside
                ∙ other_more (get_or targets i 0) (λ same. differ (one_place targets i place is inside within (sym same ∙ sym at)))
                ∙ sym (get_or-map more targets i 0 [] inside)
          ]

  pub put_nowhere : (lists : List (List ℕ)) → (Contains targets to → ⊥) → lists ≡ map symbols targets → lists ≡ map more targets
  put_nowhere lists absent lists_are =
      lists_are ∙ ext_get_or [] (map symbols targets) (map more targets) (length-map targets symbols ∙ sym (length-map targets more)) (λ i below.
      (let inside : i < length targets = omega (arith, below, length-map targets symbols) in
      get_or-map symbols targets i 0 [] inside
      ∙ other_more (get_or targets i 0) (λ same. absent (subst (λ t. Contains targets t) (sym same) (Contains-get_or targets i 0 inside)))
      ∙ sym (get_or-map more targets i 0 [] inside)))

-- what a search tells
pub found : (xs : List ℕ) (x i : ℕ) → IsAscending xs → IsBinarySearchResult (λ y. nat_cmp y x) xs (Ok i) → (i < length xs) × (get_or xs i 0 ≡ x)
found xs x i is result = searched xs x (Ok i) result (λ j k before below. non_decreasing_from_sorted xs is j k 0 before below)

pub not_found : (xs : List ℕ) (x i : ℕ) → IsAscending xs → IsBinarySearchResult (λ y. nat_cmp y x) xs (Err i) → Contains xs x → ⊥
not_found xs x i is result (k, within, at) =
    let (most, before, after) = searched xs x (Err i) result (λ j l less below. non_decreasing_from_sorted xs is j l 0 less below) in
    let same : get_or xs k 0 ≡ x = get_or_default xs k 0 x within ∙ at in
    elim (cases_lt k i) [
      | inl less ↦ (let below = before k less in omega (arith, below, same))
      | inr more ↦ (let above = after k more within in omega (arith, above, same))
    ]

-- no symbol has been met
pub none_yet : (row targets : List ℕ) → replicate (length targets) [] ≡ map (symbols_below row 0) targets
none_yet row [] = refl
none_yet row (to ∷ targets) = let rest = none_yet row targets in (λ i. [] ∷ rest i)

-- one more symbol has been put to the list of its target
pub one_put : (row targets : List ℕ) (n to : ℕ) (lists : List (List ℕ)) → to ≡ get_or row n 0
    → lists ≡ map (λ t. symbols_below row n t ++ cond (to == t) (n ∷ []) []) targets → lists ≡ map (symbols_below row (n + 1)) targets
one_put row targets n to lists is lists_are =
    lists_are
    ∙ ap (λ (s : ℕ). map (λ t. symbols_below row n t ++ cond (s == t) (n ∷ []) []) targets) is
    ∙ (λ i. map (λ t. sym (symbols_more row n t) i) targets)

-- as many lists as targets
pub as_many : {V : Type 0} (items : V → List ℕ) (lists : List V) (symbols : ℕ → List ℕ) (targets : List ℕ) → map items lists ≡ map symbols targets → length lists ≡ length targets
as_many items lists symbols targets are = sym (length-map lists items) ∙ ap length are ∙ length-map targets symbols

-- one more symbol of a row that is told by blocks
pub row_more : (by_letter : List ℕ) (block : ℕ → ℕ) (n k x : ℕ) (old new : List ℕ) → x ≡ get_or by_letter k 0 → k ≡ block n → new ≡ old ++ x ∷ []
    → old ≡ map (λ s. get_or by_letter (block s) 0) (range_with_len 0 n) → new ≡ map (λ s. get_or by_letter (block s) 0) (range_with_len 0 (n + 1))
row_more by_letter block n k x old new x_is k_is new_is old_is =
    new_is
    ∙ ap (λ (l : List ℕ). l ++ x ∷ []) old_is
    ∙ ap (λ (y : ℕ). map (λ s. get_or by_letter (block s) 0) (range_with_len 0 n) ++ y ∷ []) (x_is ∙ ap (λ (j : ℕ). get_or by_letter j 0) k_is)
    ∙ sym (map-range_with_len_more (λ s. get_or by_letter (block s) 0) 0 n n (omega arith))
