-- Sets of flows as the bits of a word.
use Rattle.std.proofs.Common.{◌≡◌, ◌≢◌, ◌∙◌, ℕ, ◌<◌, ◌≤◌, ◌-◌, ◌*◌, ◌%◌, ◌/◌, ◌^◌, ◌==◌, ◌⊎◌, ◌↔◌, IsTrue, inl, inr, min, max, bit_and, bit_or, arith, sym, ap, subst}
use Rattle.std.proofs.lemmas.Bool.{cases_eq, eq-eqb, eqb-true}
use Rattle.std.proofs.lemmas.Nat.Bits.{shr_and_one, bit_at-zero, bit_at_and, bit_at_or, bit_at_not, bit_at_set_same, bit_at_set_other, bit_at_clear_same, bit_at_clear_other, bit_at-trailing_zeros, bit_at-lt, bit_at_ones, ones_shr}
use Rattle.std.proofs.lemmas.Nat.{and_le_l}
use Rattle.std.specs.Int.{bit_at, bit_not, trailing_zeros, w64}
use Rattle.rela_plan.specs.Selection.{HasFlow}

pub read_bit : (flows place : ℕ) → IsTrue (bit_and (flows / 2 ^ place) 1 == 1) ↔ HasFlow flows place
read_bit flows place = (
  λ h. sym (shr_and_one flows place) ∙ eqb-true (bit_and (flows / 2 ^ place) 1) 1 h,
  λ e. eq-eqb (bit_and (flows / 2 ^ place) 1) 1 (shr_and_one flows place ∙ e),
)

pub set_same : (flows place : ℕ) → place < 64 → HasFlow (bit_or flows (1 * 2 ^ place % 2 ^ 64)) place
set_same flows place within = bit_at_set_same w64 flows place within

pub set_other : (flows place : ℕ) → place < 64 → (k : ℕ) → k ≢ place
    → HasFlow (bit_or flows (1 * 2 ^ place % 2 ^ 64)) k ↔ HasFlow flows k
set_other flows place within k n =
    let same : bit_at (bit_or flows (1 * 2 ^ place % 2 ^ 64)) k ≡ bit_at flows k = bit_at_set_other w64 flows place within k n in
    (λ h. sym same ∙ h, λ h. same ∙ h)

-- `flows & !(1 << place)`
pub clear_same : (flows place : ℕ) → place < 64 → HasFlow (bit_and flows (bit_not w64 (1 * 2 ^ place % 2 ^ 64))) place → ⊥
clear_same flows place within h =
    let e : 0 ≡ 1 = sym (bit_at_clear_same w64 flows place within) ∙ h in absurd (omega (arith, e))

pub clear_other : (flows place : ℕ) → place < 64 → (k : ℕ) → k < 64 → k ≢ place
    → HasFlow (bit_and flows (bit_not w64 (1 * 2 ^ place % 2 ^ 64))) k ↔ HasFlow flows k
clear_other flows place within k low n =
    let same : bit_at (bit_and flows (bit_not w64 (1 * 2 ^ place % 2 ^ 64))) k ≡ bit_at flows k = bit_at_clear_other w64 flows place within k low n in
    (λ h. sym same ∙ h, λ h. same ∙ h)

pub clear_smaller : (flows place : ℕ) → place < 64 → HasFlow flows place → bit_and flows (bit_not w64 (1 * 2 ^ place % 2 ^ 64)) < flows
clear_smaller flows place within has =
    smaller (bit_and flows (bit_not w64 (1 * 2 ^ place % 2 ^ 64))) flows (and_le_l flows (bit_not w64 (1 * 2 ^ place % 2 ^ 64)))
    (λ e. clear_same flows place within (subst (λ (w : ℕ). HasFlow w place) (sym e) has))
  where
    smaller : (m n : ℕ) → m ≤ n → m ≢ n → m < n
    smaller m n le ne = elim (cases_eq m n) [
      | inl e ↦ absurd (ne e)
      | inr d ↦ omega (arith, le, d)
    ]

pub first_bit : (flows : ℕ) → 0 < flows → flows < 2 ^ 64 → (trailing_zeros w64 flows < 64) × HasFlow flows (trailing_zeros w64 flows)
first_bit flows some fits = let h = bit_at-trailing_zeros w64 flows some fits in (h.0, h.1)

-- `u64::MAX >> (64 - count)`
pub first_bits : (count : ℕ) → count ≤ 64 → (k : ℕ) → k < count → HasFlow ((2 ^ 64 - 1) / 2 ^ (64 - count)) k
first_bits count few k within =
    let ones : (2 ^ 64 - 1) / 2 ^ (64 - count) ≡ 2 ^ (64 - (64 - count)) - 1 = ones_shr 64 (64 - count) (omega arith) in
    let back : 64 - (64 - count) ≡ count = omega (arith, few) in
    ap (λ (w : ℕ). bit_at w k) (ones ∙ ap (λ (n : ℕ). 2 ^ n - 1) back) ∙ bit_at_ones count k within

pub no_bit : (k : ℕ) → HasFlow 0 k → ⊥
no_bit k h = let e : 0 ≡ 1 = sym (bit_at-zero k) ∙ h in absurd (omega (arith, e))

min_one : (x y : ℕ) → x < 2 → y < 2 → (min x y ≡ 1) ↔ ((x ≡ 1) × (y ≡ 1))
min_one x y p q = (λ h. (omega (arith, h, p, q), omega (arith, h, p, q)), λ h. omega (arith, h.0, h.1))

max_one : (x y : ℕ) → x < 2 → y < 2 → (max x y ≡ 1) ↔ ((x ≡ 1) ⊎ (y ≡ 1))
max_one x y p q = (
  λ h. elim (cases_eq x 1) [
    | inl e ↦ inl e
    | inr n ↦ inr (omega (arith, h, n, p, q))
  ],
  λ h. elim h [
    | inl e ↦ omega (arith, e, p, q)
    | inr e ↦ omega (arith, e, p, q)
  ],
)

less_one : (x y : ℕ) → x < 2 → y < 2 → (min x (1 - y) ≡ 1) ↔ ((x ≡ 1) × (¬ (y ≡ 1)))
less_one x y p q = (
  λ h. (omega (arith, h, p, q), λ e. absurd (omega (arith, h, e, p))),
  λ h. elim (cases_eq y 1) [
    | inl e ↦ absurd (h.1 e)
    | inr n ↦ omega (arith, h.0, n, q)
  ],
)

pub both_bits : (a b k : ℕ) → HasFlow (bit_and a b) k ↔ (HasFlow a k × HasFlow b k)
both_bits a b k = rw (bit_at_and a b k) (min_one (bit_at a k) (bit_at b k) (bit_at-lt a k) (bit_at-lt b k))

pub either_bits : (a b k : ℕ) → HasFlow (bit_or a b) k ↔ (HasFlow a k ⊎ HasFlow b k)
either_bits a b k = rw (bit_at_or a b k) (max_one (bit_at a k) (bit_at b k) (bit_at-lt a k) (bit_at-lt b k))

pub but_bits : (a b : ℕ) → b < 2 ^ 64 → (k : ℕ) → k < 64 → HasFlow (bit_and a (bit_not w64 b)) k ↔ (HasFlow a k × (¬ HasFlow b k))
but_bits a b fits k within =
    rw (bit_at_and a (bit_not w64 b) k, bit_at_not w64 b k fits within) (less_one (bit_at a k) (bit_at b k) (bit_at-lt a k) (bit_at-lt b k))

-- a set has a flow or hasn't
pub has_or_not : (flows k : ℕ) → HasFlow flows k ⊎ (¬ HasFlow flows k)
has_or_not flows k = elim (cases_eq (bit_at flows k) 1) [
  | inl e ↦ inl e
  | inr n ↦ inr n
]
