-- Digits and decimals.
use Rattle.std.proofs.Common.{◌≡◌, ℕ, ◌+◌, ◌*◌, ◌^◌, ◌<◌, ◌≤◌, zero, suc, List, [], ◌∷◌, length, get_or, take, sym, ◌∙◌, ap, subst, ⊎_elim, lit<, arith}
use Rattle.std.specs.Char.{digit_value}
use Rattle.std.specs.Str.Parse.{AllDigits, digits_value, IsNumeral}
use Rattle.std.specs.Fmt.{decimal}
use Rattle.std.proofs.lemmas.Fmt.{decimal_is_IsNumeral, decimal_digit, first_decimal, length-decimal-le, decimal-digits_value}
use Rattle.std.proofs.lemmas.Str.Parse.{IsNumeralModel, numerals_by_value, tells_digits}
use Rattle.std.proofs.lemmas.Bool.{cases_lt}
use Rattle.std.proofs.lemmas.Int.Digits.{digits_value-lt}
use Rattle.std.proofs.lemmas.List.{length-take-le}
use Rattle.std.proofs.Math.Nat.{pow-le-pow_right}
use Rattle.rela_certfile.specs.Cut.{Lacks}

-- each byte of digits is one
pub digit_of_digits : (text : List ℕ) (i : ℕ) → AllDigits 10 text → i < length text → digit_value (get_or text i 0) < 10
digit_of_digits [] i digits inside = absurd (omega arith)
digit_of_digits (c ∷ cs) zero digits inside = digits.0
digit_of_digits (c ∷ cs) (suc i) digits inside = digit_of_digits cs i digits.1 (omega arith)

-- one more digit after at most nine still fits 64 bits
pub digit_fits : (text : List ℕ) (i d : ℕ) → i < 10 → i ≤ length text → AllDigits 10 (take i text) → d < 10 → digits_value 10 (take i text) * 10 + d < 2 ^ 64
digit_fits text i d short inside digits small =
    let n : ℕ = digits_value 10 (take i text) in
    let below : n < 10 ^ i = subst (λ k. n < 10 ^ k) (length-take-le i text inside) (digits_value-lt 10 (take i text) digits) in
    let power : 10 ^ i ≤ 10 ^ 9 = pow-le-pow_right {n = 10} (lit< tt) (let nine : i ≤ 9 = omega arith in nine) in
    omega arith

own : IsNumeralModel (AllDigits 10) (digits_value 10)
own = numerals_by_value (AllDigits 10) tells_digits

-- a decimal with no leading zero is the text of its number
pub decimal_of_numeral : (text : List ℕ) (n : ℕ) → (get_or text 0 0 ≡ 48 → length text ≤ 1) → n < 2 ^ 32 → IsNumeral 10 text × (length text ≤ 10) × (n ≡ digits_value 10 text) → text ≡ decimal n
decimal_of_numeral text n plain small numeral =
    let value : n ≡ digits_value 10 text = numeral.2 in
    sym (ap decimal value ∙ decimal-digits_value own text numeral.0.1 numeral.0.0 (λ zero_first. let one : length text ≤ 1 = plain zero_first in let some : 0 < length text = numeral.0.0 in omega arith) (omega (arith, value)))

pub numeral_of_decimal : (text : List ℕ) (n : ℕ) → n < 2 ^ 32 → text ≡ decimal n → IsNumeral 10 text × (length text ≤ 10) × (n ≡ digits_value 10 text)
numeral_of_decimal text n small written =
    let fits : n < 2 ^ 64 = omega arith in
    let is : IsNumeral 10 (decimal n) × (digits_value 10 (decimal n) ≡ n) = decimal_is_IsNumeral n fits in
    rw written (is.0, length-decimal-le 10 n (lit< tt) (omega arith) fits, sym is.1)

pub no_leading_zero : (text : List ℕ) (n : ℕ) → 1 < length text → get_or text 0 0 ≡ 48 → n < 2 ^ 32 → text ≡ decimal n → ⊥
no_leading_zero text n long first small written = ⊎_elim
    (λ zero_is.
    let one : text ≡ (48 + n) ∷ [] = written ∙ decimal_digit n (omega arith) in
    absurd (omega (arith, ap length one)))
    (λ positive. absurd (omega (arith, ap (λ t. get_or t 0 0) written, first_decimal n (omega arith) (omega arith))))
    (cases_lt n 1)

-- digits hold no byte that is none
digits_avoid : (s : ℕ) (text : List ℕ) → 10 ≤ digit_value s → AllDigits 10 text → Lacks s text
digits_avoid s [] none digits = tt
digits_avoid s (c ∷ cs) none digits = (
  (λ same.
      let here : digit_value c < 10 = digits.0 in
      let there : digit_value c ≡ digit_value s = ap digit_value same in
      omega arith),
  digits_avoid s cs none digits.1,
)

-- a decimal holds no byte that is no digit
pub decimal_lacks : (s n : ℕ) → 10 ≤ digit_value s → n < 2 ^ 32 → Lacks s (decimal n)
decimal_lacks s n none small = digits_avoid s (decimal n) none (decimal_is_IsNumeral n (omega arith)).0.1
