-- Letters below 64 as the bits of one word.
use Rattle.std.proofs.Common.{◌≡◌, ℕ, ◌*◌, ◌%◌, ◌^◌, ◌<◌, ◌≤◌, ◌↔◌, ◌==◌, Bool, true, false, not, ◌&&◌, ◌||◌, IsTrue, inl, inr, arith, refl, sym, ap, subst, ◌∙◌, bit_and, bit_or}
use Rattle.std.proofs.lemmas.Bool.{cases_lt, cases_eq, eq-eqb, eqb-true, ne_eqb, false≢true}
use Rattle.std.proofs.lemmas.Nat.Bits.{bit_at-zero, bit_at_above, bit_at_set_same, bit_at_set_other, bit_at-trailing_zeros, bit_at-lt, same_from_bits_below}
use Rattle.std.specs.Int.{bit_at, bit_not, trailing_zeros, w64}
use Rattle.rela_labels.specs.declared.letters.Letters.{Letters}
use Rattle.rela_labels.specs.WideSets.{has_letter}
use Rattle.rela_labels.specs.Words.{word_has}
use Rattle.rela_labels.proofs.WordBits.{meet_bits, minus_bitwise, same_digit}

-- a word has no bit from 64 on
pub none_above : (word k : ℕ) → word < 2 ^ 64 → 64 ≤ k → word_has word k ≡ false
none_above word k fits above = ap (λ b. b == 1) (bit_at_above word 64 k fits above)

-- a letter whose bit is 1 is below 64
pub below_word : (word k : ℕ) → word < 2 ^ 64 → word_has word k ≡ true → k < 64
below_word word k fits there =
    elim (cases_lt k 64) [
      | inl below ↦ below
      | inr above ↦ absurd (false≢true (sym (none_above word k fits above) ∙ there))
    ]

pub set_bits : (word letter : ℕ) → letter < 64 → (k : ℕ) → word_has (bit_or word (1 * 2 ^ letter % 2 ^ 64)) k ≡ (word_has word k || letter == k)
set_bits word letter within k =
    elim (cases_eq k letter) [
      | inl e ↦
          ap (λ b. b == 1) (ap (bit_at (bit_or word (1 * 2 ^ letter % 2 ^ 64))) e ∙ bit_at_set_same w64 word letter within)
          ∙ sym (ap (λ v. word_has word k || v) (eq-eqb letter k (sym e)) ∙ or_true (word_has word k))
      | inr n ↦
          ap (λ b. b == 1) (bit_at_set_other w64 word letter within k n)
          ∙ sym (ap (λ v. word_has word k || v) (ne_eqb letter k (λ e. n (sym e))) ∙ or_false (word_has word k))
    ]
  where
    or_true : (b : Bool) → (b || true) ≡ true
    or_true true = refl
    or_true false = refl

    or_false : (b : Bool) → (b || false) ≡ b
    or_false true = refl
    or_false false = refl

pub minus_bits : (a b : ℕ) → a < 2 ^ 64 → b < 2 ^ 64 → (k : ℕ) → word_has (bit_and a (bit_not w64 b)) k ≡ (word_has a k && not (word_has b k))
minus_bits a b a_fits b_fits k =
    elim (cases_lt k 64) [
      | inl below ↦ minus_bitwise a b k b_fits below
      | inr above ↦
          meet_bits a (bit_not w64 b) k ∙ ap (λ v. v && word_has (bit_not w64 b) k) (none_above a k a_fits above)
          ∙ sym (ap (λ v. v && not (word_has b k)) (none_above a k a_fits above))
    ]

pub same_bits : (a b : ℕ) → a < 2 ^ 64 → b < 2 ^ 64 → IsTrue (a == b) ↔ ((k : ℕ) → word_has a k ≡ word_has b k)
same_bits a b a_fits b_fits = (
  λ h k. ap (λ word. word_has word k) (eqb-true a b h),
  λ same. eq-eqb a b (same_from_bits_below 64 a b a_fits b_fits (λ k _. same_digit (bit_at a k) (bit_at b k) (bit_at-lt a k) (bit_at-lt b k) (same k))),
)

no_bits : (k : ℕ) → word_has 0 k ≡ false
no_bits k = ap (λ b. b == 1) (bit_at-zero k)

pub empty_word : (word : ℕ) → word < 2 ^ 64 → IsTrue (word == 0) ↔ ((k : ℕ) → word_has word k ≡ false)
empty_word word fits =
    let same = same_bits word 0 fits (omega arith) in (
      λ h k. same.0 h k ∙ no_bits k,
      λ none. same.1 (λ k. none k ∙ sym (no_bits k)),
    )

pub lowest_bit : (word : ℕ) → 0 < word → word < 2 ^ 64 → word_has word (trailing_zeros w64 word) ≡ true
lowest_bit word positive fits = ap (λ b. b == 1) ((bit_at-trailing_zeros w64 word positive fits).1)

pub none_below : (word : ℕ) → 0 < word → word < 2 ^ 64 → (k : ℕ) → k < trailing_zeros w64 word → word_has word k ≡ false
none_below word positive fits k below = ap (λ b. b == 1) ((bit_at-trailing_zeros w64 word positive fits).2 k below)

-- what a word tells of the letters that it is
pub empty_when : (x a : Letters) (empty : Bool) → x ≡ a → IsTrue empty ↔ ((k : ℕ) → has_letter a k ≡ false)
    → IsTrue empty ↔ ((k : ℕ) → has_letter x k ≡ false)
empty_when x a empty is h = subst (λ x. IsTrue empty ↔ ((k : ℕ) → has_letter x k ≡ false)) (sym is) h

pub same_when : (x y a b : Letters) (same : Bool) → x ≡ a → y ≡ b → IsTrue same ↔ ((k : ℕ) → has_letter a k ≡ has_letter b k)
    → IsTrue same ↔ ((k : ℕ) → has_letter x k ≡ has_letter y k)
same_when x y a b same x_is y_is h =
    subst (λ x. IsTrue same ↔ ((k : ℕ) → has_letter x k ≡ has_letter y k)) (sym x_is)
    (subst (λ y. IsTrue same ↔ ((k : ℕ) → has_letter a k ≡ has_letter y k)) (sym y_is) h)
