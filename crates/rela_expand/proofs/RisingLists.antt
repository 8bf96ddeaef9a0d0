-- Lists of numbers that rise, and which numbers they have.
use Rattle.std.proofs.Common.{zero, suc, ◌≡◌, ℕ, ◌+◌, ◌<◌, ◌≤◌, ◌↔◌, Bool, true, nat_eq, nat_lt, List, [], ◌∷◌, get_or, filter, refl, ap, ap₂, sym, ◌∙◌, arith}
use Rattle.std.specs.List.{All, Contains, range_with_len}
use Rattle.std.specs.List.Sorted.{IsStrictlyIncreasing, IsStrictlySortedBy}
use Rattle.std.specs.Ordering.{nat_cmp}
use Rattle.std.proofs.lemmas.Bool.Decides.{nat_tests}
use Rattle.std.proofs.lemmas.Cmp.{nat_eq_equiv}
use Rattle.std.proofs.lemmas.List.Elements.{All-contains, All-filter, All-from_get_or, filter_passes}
use Rattle.std.proofs.lemmas.List.FromFn.{get_or-range_with_len, length-range_with_len}
use Rattle.std.proofs.lemmas.List.Kept.{IsStrictlyIncreasing-filter}
use Rattle.std.proofs.lemmas.Map.Keys.{below_from_sorted, sorted_tail}
use Rattle.std.proofs.lemmas.Map.Views.{Contains-from_any, any-filter_same, exact_unsigned_eq, list_any-from_Contains}

after : (x : ℕ) (xs : List ℕ) (n : ℕ) → Contains xs n → Contains (x ∷ xs) n
after x xs n (i, within, at) = (suc i, omega (arith, within), at)

later : (x : ℕ) (xs : List ℕ) (n : ℕ) → x < n → Contains (x ∷ xs) n → Contains xs n
later x xs n above (zero, within, at) = absurd (omega (arith, above, at))
later x xs n above (suc i, within, at) = (i, omega (arith, within), at)

-- in a rising list what comes after the first is above it
above_first : (x : ℕ) (xs : List ℕ) (n : ℕ) → IsStrictlySortedBy nat_cmp (x ∷ xs) → Contains xs n → x < n
above_first x xs n rises (i, within, at) =
    let above : x < get_or xs i n = below_from_sorted (x ∷ xs) 0 (suc i) n rises (omega arith) (omega (arith, within)) in
    omega (arith, above, at)

from_first : (x : ℕ) (xs : List ℕ) (n : ℕ) → IsStrictlySortedBy nat_cmp (x ∷ xs) → Contains (x ∷ xs) n → x ≤ n
from_first x xs n rises (zero, within, at) = omega (arith, at)
from_first x xs n rises (suc i, within, at) = let above = above_first x xs n rises (i, omega (arith, within), at) in omega (arith, above)

-- two rising lists of the same numbers are one
pub same_rising : (xs ys : List ℕ) → IsStrictlySortedBy nat_cmp xs → IsStrictlySortedBy nat_cmp ys → ((n : ℕ) → Contains xs n ↔ Contains ys n) → xs ≡ ys
same_rising [] [] xs_rise ys_rise same = refl
same_rising [] (y ∷ ys) xs_rise ys_rise same = let never = (same y).1 (0, omega arith, refl) in absurd (omega (arith, never.1))
same_rising (x ∷ xs) [] xs_rise ys_rise same = let never = (same x).0 (0, omega arith, refl) in absurd (omega (arith, never.1))
same_rising (x ∷ xs) (y ∷ ys) xs_rise ys_rise same =
    let low : y ≤ x = from_first y ys x ys_rise ((same x).0 (0, omega arith, refl)) in
    let high : x ≤ y = from_first x xs y xs_rise ((same y).1 (0, omega arith, refl)) in
    let first : x ≡ y = omega (arith, low, high) in
    ap₂ (λ (n : ℕ) (ns : List ℕ). n ∷ ns) first (same_rising xs ys (sorted_tail nat_cmp x xs xs_rise) (sorted_tail nat_cmp y ys ys_rise) (λ n. (
      λ among. let above = above_first x xs n xs_rise among in later y ys n (omega (arith, above, high, low)) ((same n).0 (after x xs n among)),
      λ among. let above = above_first y ys n ys_rise among in later x xs n (omega (arith, above, high, low)) ((same n).1 (after y ys n among)),
    )))

-- ---- the numbers below n that pass

range_rises : (n : ℕ) → IsStrictlyIncreasing (range_with_len 0 n)
range_rises n k within =
    let in_range : k + 1 < n = omega (arith, within, length-range_with_len 0 n) in
    let here : get_or (range_with_len 0 n) k 0 ≡ 0 + k = get_or-range_with_len 0 n k 0 (omega (arith, in_range)) in
    let next : get_or (range_with_len 0 n) (k + 1) 0 ≡ 0 + (k + 1) = get_or-range_with_len 0 n (k + 1) 0 in_range in
    omega (arith, here, next)

pub kept_rise : (p : ℕ → Bool) (n : ℕ) → IsStrictlyIncreasing (filter p (range_with_len 0 n))
kept_rise p n = IsStrictlyIncreasing-filter p (range_with_len 0 n) (range_rises n)

range_below : (n : ℕ) → All (λ m. nat_lt m n ≡ true) (range_with_len 0 n)
range_below n = All-from_get_or (λ m. nat_lt m n ≡ true) (range_with_len 0 n) 0 (λ i within.
    let in_range : i < n = omega (arith, within, length-range_with_len 0 n) in
    let here : get_or (range_with_len 0 n) i 0 ≡ 0 + i = get_or-range_with_len 0 n i 0 in_range in
    grind (arith, nat_tests))

pub kept_passes : (p : ℕ → Bool) (n m : ℕ) → Contains (filter p (range_with_len 0 n)) m → (nat_lt m n ≡ true) × (p m ≡ true)
kept_passes p n m among = (
  All-contains (λ k. nat_lt k n ≡ true) (filter p (range_with_len 0 n)) m (All-filter p (λ k. nat_lt k n ≡ true) (range_with_len 0 n) (range_below n)) among,
  All-contains (λ k. p k ≡ true) (filter p (range_with_len 0 n)) m (filter_passes p (range_with_len 0 n)) among,
)

pub passes_kept : (p : ℕ → Bool) (n m : ℕ) → nat_lt m n ≡ true → p m ≡ true → Contains (filter p (range_with_len 0 n)) m
passes_kept p n m below passes =
    let within : m < n = grind (arith, nat_tests) in
    let here : get_or (range_with_len 0 n) m m ≡ 0 + m = get_or-range_with_len 0 n m m within in
    let in_range : Contains (range_with_len 0 n) m = (m, omega (arith, within, length-range_with_len 0 n), omega (arith, here)) in
    Contains-from_any exact_unsigned_eq m (filter p (range_with_len 0 n))
    (any-filter_same (nat_eq m) p true (λ k is. ap p (sym (exact_unsigned_eq m k is)) ∙ passes) (range_with_len 0 n) ∙ list_any-from_Contains nat_eq_equiv m (range_with_len 0 n) in_range)
