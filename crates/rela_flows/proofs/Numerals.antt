-- Digits and decimals.
use Rattle.std.proofs.Common.{◌≡◌, ℕ, ◌+◌, ◌*◌, ◌^◌, ◌<◌, ◌≤◌, zero, suc, le_trans, List, [], ◌∷◌, length, get_or, take, sym, ◌∙◌, ap, subst, ⊎_elim, lit<, arith}
use Rattle.std.specs.List.{All}
use Rattle.rela_flows.proofs.Parts.{IsNot}
use Rattle.std.specs.Char.{digit_value}
use Rattle.std.specs.Str.Parse.{AllDigits, digits_value, IsNumeral}
use Rattle.std.specs.Fmt.{decimal}
use Rattle.std.proofs.lemmas.Fmt.{decimal_is_IsNumeral, decimal_digit, first_decimal, length-decimal-le, decimal-digits_value}
use Rattle.std.proofs.lemmas.Str.Parse.{IsNumeralModel, numerals_by_value, tells_digits}
use Rattle.std.proofs.lemmas.Bool.{cases_lt}
use Rattle.std.proofs.lemmas.Int.Digits.{digits_value-lt}
use Rattle.std.proofs.lemmas.List.{length-take-le}
use Rattle.std.proofs.lemmas.Nat.{mul-add-lt, mul-le}
use Rattle.rela_flows.specs.Notation.{IsOctet}
use Rattle.std.proofs.Math.Nat.{pow-le-pow_left, pow-le-pow_right}

-- each byte of digits is one
pub digit_of_digits : (radix : ℕ) (text : List ℕ) (i : ℕ) → AllDigits radix text → i < length text → digit_value (get_or text i 0) < radix
digit_of_digits radix [] i digits inside = absurd (omega arith)
digit_of_digits radix (c ∷ cs) zero digits inside = digits.0
digit_of_digits radix (c ∷ cs) (suc i) digits inside = digit_of_digits radix cs i digits.1 (omega arith)

-- one more digit after at most three still fits 16 bits, up to the radix 16
pub digit_fits : (radix : ℕ) (text : List ℕ) (i d : ℕ) → radix ≤ 16 → i < 4 → i ≤ length text → AllDigits radix (take i text) → d < radix → digits_value radix (take i text) * radix + d < 2 ^ 16
digit_fits radix text i d low short inside digits small =
    let n : ℕ = digits_value radix (take i text) in
    let below : n < radix ^ i = subst (λ k. n < radix ^ k) (length-take-le i text inside) (digits_value-lt radix (take i text) digits) in
    let power : radix ^ i ≤ 16 ^ 3 = le_trans (pow-le-pow_left low i) (pow-le-pow_right {n = 16} (lit< tt) (let three : i ≤ 3 = omega arith in three)) in
    let room : n * radix + d < radix * radix ^ i = mul-add-lt n radix d (radix ^ i) below small in
    omega (arith, mul-le radix (radix ^ i) 16 (16 ^ 3) low power)

own : IsNumeralModel (AllDigits 10) (digits_value 10)
own = numerals_by_value (AllDigits 10) tells_digits

-- a decimal with no leading zero is the text of its number
pub octet_of_numeral : (text : List ℕ) (n : ℕ) → (get_or text 0 0 ≡ 48 → length text ≤ 1) → n < 256 → IsNumeral 10 text × (length text ≤ 4) × (n ≡ digits_value 10 text) → IsOctet text n
octet_of_numeral text n plain small numeral =
    let value : n ≡ digits_value 10 text = numeral.2 in
    record {
      fits = small;
      written = sym (ap decimal value ∙ decimal-digits_value own text numeral.0.1 numeral.0.0 (λ zero_first. let one : length text ≤ 1 = plain zero_first in let some : 0 < length text = numeral.0.0 in omega arith) (omega (arith, value)));
    }

pub numeral_of_octet : (text : List ℕ) (n : ℕ) → IsOctet text n → IsNumeral 10 text × (length text ≤ 4) × (n ≡ digits_value 10 text)
numeral_of_octet text n octet =
    let fits : n < 2 ^ 64 = omega (arith, octet.fits) in
    let is : IsNumeral 10 (decimal n) × (digits_value 10 (decimal n) ≡ n) = decimal_is_IsNumeral n fits in
    rw octet.written (is.0, length-decimal-le 4 n (lit< tt) (omega (arith, octet.fits)) fits, sym is.1)

pub no_leading_zero : (text : List ℕ) (n : ℕ) → 1 < length text → get_or text 0 0 ≡ 48 → IsOctet text n → ⊥
no_leading_zero text n long first octet = ⊎_elim
    (λ zero_is.
    let one : text ≡ (48 + n) ∷ [] = octet.written ∙ decimal_digit n (omega arith) in
    absurd (omega (arith, ap length one)))
    (λ positive. absurd (omega (arith, ap (λ t. get_or t 0 0) octet.written, first_decimal n (omega arith) (omega (arith, octet.fits)))))
    (cases_lt n 1)

-- digits hold no byte that is none
pub digits_avoid : (radix s : ℕ) (text : List ℕ) → radix ≤ digit_value s → AllDigits radix text → All (IsNot s) text
digits_avoid radix s [] none digits k d inside same = omega arith
digits_avoid radix s (c ∷ cs) none digits zero d inside same =
    let here : digit_value c < radix = digits.0 in
    let there : digit_value c ≡ digit_value s = ap digit_value same in
    omega arith
digits_avoid radix s (c ∷ cs) none digits (suc k) d inside same = digits_avoid radix s cs none digits.1 k d (omega arith) same
