-- Lists of numbers that rise, and which numbers they have.
use Rattle.std.proofs.Common.{zero, suc, ◌≡◌, ℕ, ◌+◌, ◌<◌, ◌≤◌, Bool, true, false, cond, ◌&&◌, ◌||◌, ◌==◌, nat_lt, List, [], ◌∷◌, get_or, Some, filter, refl, ap, sym, ◌∙◌, arith, inl, inr, eqb}
use Rattle.std.specs.List.{range_with_len, Contains, dedup}
use Rattle.std.specs.List.Sorted.{IsStrictlySortedBy, IsStrictlyIncreasing, IsSorted}
use Rattle.std.specs.Ordering.{nat_cmp}
use Rattle.std.proofs.lemmas.Bool.{eq-eqb, false_from_ne_true, cases_lt}
use Rattle.std.proofs.lemmas.List.Folds.{list_any-append}
use Rattle.std.proofs.lemmas.List.FromFn.{get_or-range_with_len, length-range_with_len}
use Rattle.std.proofs.lemmas.List.Kept.{IsStrictlySortedBy-filter, Contains-dedup_nat, Contains-from_dedup}
use Rattle.std.proofs.lemmas.Map.Keys.{sorted_from_strictly_increasing, below_from_sorted, sorted_tail, IsStrictlyIncreasing-dedup}
use Rattle.std.proofs.lemmas.Option.{slice_get_within, get_or_from_slice_get, slice_get-get_or}
use Rattle.rela_locations.specs.Tables.{has_number}
use Rattle.rela_locations.proofs.Bools.{place_of_any, any_of_place, or_false, or_true, same_test, and_false}
use Rattle.rela_locations.proofs.Parents.{equal_numbers}
use Rattle.rela_locations.proofs.Places.{filter_range_more}

-- a number among the later ones of a rising list is above the first
above_first : (x : ℕ) (xs : List ℕ) (n : ℕ) → IsStrictlySortedBy nat_cmp (x ∷ xs) → has_number xs n ≡ true → x < n
above_first x xs n sorted has =
    let found = place_of_any (λ m. m == n) xs has in
    let is : found.1 ≡ n = equal_numbers found.1 n found.3 in
    let above : x < get_or xs found.0 found.1 = below_from_sorted (x ∷ xs) 0 (suc found.0) found.1 sorted (omega arith) (let within = slice_get_within xs found.0 found.1 found.2 in omega arith) in
    rw (get_or_from_slice_get xs found.0 found.1 found.1 found.2, is) at above

first_is_there : (x : ℕ) (xs : List ℕ) → has_number (x ∷ xs) x ≡ true
first_is_there x xs = rw (eq-eqb x x refl) refl

-- two rising lists that have the same numbers are one
pub same_rising : (xs ys : List ℕ) → IsStrictlySortedBy nat_cmp xs → IsStrictlySortedBy nat_cmp ys → ((n : ℕ) → has_number xs n ≡ has_number ys n) → xs ≡ ys
same_rising [] [] xs_rise ys_rise same = refl
same_rising [] (y ∷ ys) xs_rise ys_rise same = let here : false ≡ true = same y ∙ first_is_there y ys in cc
same_rising (x ∷ xs) [] xs_rise ys_rise same = let here : true ≡ false = sym (first_is_there x xs) ∙ same x in cc
same_rising (x ∷ xs) (y ∷ ys) xs_rise ys_rise same = joined firsts (same_rising xs ys (sorted_tail nat_cmp x xs xs_rise) (sorted_tail nat_cmp y ys ys_rise) (tails firsts))
  where
    either : (a : Bool) (b : Bool) → (a || b) ≡ true → a ≡ false → b ≡ true
    either true b e apart = cc
    either false b e apart = e

    not_above : (u v : ℕ) (us vs : List ℕ) → IsStrictlySortedBy nat_cmp (v ∷ vs) → has_number (v ∷ vs) u ≡ true → v ≤ u
    not_above u v us vs rise has = elim (cases_lt u v) [
      | inl below ↦
          let apart : (v == u) ≡ false = false_from_ne_true (v == u) (λ e. let s = equal_numbers v u e in omega arith) in
          let above = above_first v vs u rise (either (v == u) (has_number vs u) has apart) in
          omega arith
      | inr above ↦ above
    ]

    firsts : x ≡ y
    firsts =
        let low : y ≤ x = not_above x y xs ys ys_rise (sym (same x) ∙ first_is_there x xs) in
        let high : x ≤ y = not_above y x ys xs xs_rise (same y ∙ first_is_there y ys) in
        omega arith

    tail_at : (u : ℕ) (us : List ℕ) (n : ℕ) (b : Bool) → IsStrictlySortedBy nat_cmp (u ∷ us) → (u == n) ≡ b → has_number us n ≡ cond b false (b || has_number us n)
    tail_at u us n true rise e = false_from_ne_true (has_number us n) (λ has. let above = above_first u us n rise has in let s = equal_numbers u n e in omega arith)
    tail_at u us n false rise e = refl

    tails : x ≡ y → (n : ℕ) → has_number xs n ≡ has_number ys n
    tails same_first n =
        tail_at x xs n (x == n) xs_rise refl
        ∙ ap (cond (x == n) false) (same n)
        ∙ ap (λ f. cond (f == n) false ((y == n) || has_number ys n)) same_first
        ∙ sym (tail_at y ys n (y == n) ys_rise refl)

    joined : x ≡ y → xs ≡ ys → (x ∷ xs) ≡ (y ∷ ys)
    joined p q = rw (p, q) refl

-- the numbers below n that pass
range_rises : (n : ℕ) → IsStrictlyIncreasing (range_with_len 0 n)
range_rises n k within =
    let in_range : k + 1 < n = rw length-range_with_len at within in
    let here : get_or (range_with_len 0 n) k 0 ≡ 0 + k = get_or-range_with_len 0 n k 0 (omega arith) in
    let next : get_or (range_with_len 0 n) (k + 1) 0 ≡ 0 + (k + 1) = get_or-range_with_len 0 n (k + 1) 0 in_range in
    rw (here, next) (omega arith)

pub kept_rise : (p : ℕ → Bool) (n : ℕ) → IsStrictlySortedBy nat_cmp (filter p (range_with_len 0 n))
kept_rise p n = IsStrictlySortedBy-filter nat_cmp p (range_with_len 0 n) (sorted_from_strictly_increasing (range_with_len 0 n) (range_rises n))

lt_more : (m n : ℕ) → (nat_lt m n || (n == m)) ≡ nat_lt m (suc n)
lt_more m n = grind arith

last_kept : (p : ℕ → Bool) (n m : ℕ) (b e : Bool) → p n ≡ b → (n == m) ≡ e → ((nat_lt m n && p m) || has_number (cond b (n ∷ []) []) m) ≡ (nat_lt m (suc n) && p m)
last_kept p n m true true passes same =
    let is : n ≡ m = equal_numbers n m same in
    let yes : p m ≡ true = ap p (sym is) ∙ passes in
    let below : nat_lt m (suc n) ≡ true = sym (lt_more m n) ∙ ap (λ b. nat_lt m n || b) same ∙ or_true (nat_lt m n) in
    rw (same, below, yes) (or_true (nat_lt m n && true))
last_kept p n m false true passes same =
    let is : n ≡ m = equal_numbers n m same in
    let fails : p m ≡ false = ap p (sym is) ∙ passes in
    rw (fails, and_false (nat_lt m n)) (sym (and_false (nat_lt m (suc n))))
last_kept p n m true false passes apart =
    let below : nat_lt m (suc n) ≡ nat_lt m n = sym (lt_more m n) ∙ ap (λ b. nat_lt m n || b) apart ∙ or_false (nat_lt m n) in
    rw (apart, below) (or_false (nat_lt m n && p m))
last_kept p n m false false passes apart =
    let below : nat_lt m (suc n) ≡ nat_lt m n = sym (lt_more m n) ∙ ap (λ b. nat_lt m n || b) apart ∙ or_false (nat_lt m n) in
    rw below (or_false (nat_lt m n && p m))

none_below_zero : (m : ℕ) → nat_lt m 0 ≡ false
none_below_zero m = grind arith

pub has_number-kept : (p : ℕ → Bool) (n m : ℕ) → has_number (filter p (range_with_len 0 n)) m ≡ (nat_lt m n && p m)
has_number-kept p zero m = rw (none_below_zero m) refl
has_number-kept p (suc n) m =
    let next : suc n ≡ n + 1 = omega arith in
    ap (λ k. has_number (filter p (range_with_len 0 k)) m) next
    ∙ ap (λ xs. has_number xs m) (filter_range_more p n)
    ∙ list_any-append (λ k. k == m) (filter p (range_with_len 0 n)) (cond (p n) (n ∷ []) [])
    ∙ ap (λ b. b || has_number (cond (p n) (n ∷ []) []) m) (has_number-kept p n m)
    ∙ last_kept p n m (p n) (n == m) refl refl

-- a rising list of the numbers below n that pass
pub is_kept : (p : ℕ → Bool) (n : ℕ) (xs : List ℕ) → IsStrictlySortedBy nat_cmp xs → ((m : ℕ) → has_number xs m ≡ (nat_lt m n && p m)) → xs ≡ filter p (range_with_len 0 n)
is_kept p n xs rises has = same_rising xs (filter p (range_with_len 0 n)) rises (kept_rise p n) (λ m. has m ∙ sym (has_number-kept p n m))

contains_from_has : (xs : List ℕ) (n : ℕ) → has_number xs n ≡ true → Contains xs n
contains_from_has xs n has =
    let found = place_of_any (λ m. m == n) xs has in
    let is : found.1 ≡ n = equal_numbers found.1 n found.3 in
    (found.0, slice_get_within xs found.0 found.1 found.2, get_or_from_slice_get xs found.0 found.1 n found.2 ∙ is)

has_from_contains : (xs : List ℕ) (n : ℕ) → Contains xs n → has_number xs n ≡ true
has_from_contains xs n c = any_of_place (λ m. m == n) xs c.0 n (slice_get-get_or xs c.0 n c.1 ∙ ap Some c.2) (eq-eqb n n refl)

-- a sort and a `dedup` at numbers
pub dedup_rises : (xs : List ℕ) → IsSorted nat_cmp xs → IsStrictlySortedBy nat_cmp (dedup eqb xs)
dedup_rises xs sorted = sorted_from_strictly_increasing (dedup eqb xs) (IsStrictlyIncreasing-dedup xs sorted)

pub has_number-dedup : (xs : List ℕ) (n : ℕ) → has_number (dedup eqb xs) n ≡ has_number xs n
has_number-dedup xs n =
    same_test (has_number (dedup eqb xs) n) (has_number xs n)
    (λ has. has_from_contains xs n (Contains-from_dedup eqb xs n (contains_from_has (dedup eqb xs) n has)))
    (λ has. has_from_contains (dedup eqb xs) n (Contains-dedup_nat xs n (contains_from_has xs n has)))
