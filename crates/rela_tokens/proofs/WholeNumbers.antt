-- What a text of digits alone writes.
use Rattle.std.proofs.Common.{◌≡◌, ℕ, ◌+◌, ◌-◌, ◌*◌, ◌^◌, ◌<◌, ◌≤◌, ◌==◌, ◌&&◌, List, [], Some, Bool, length, get_or, drop, take, false, true, sym, refl, ap, ◌∙◌, arith, if◌then◌else◌, lit<, subst, append-nil, nat_lt}
use Rattle.std.specs.Char.{digit_value}
use Rattle.std.specs.Str.Parse.{AllDigits, IsNumeral, digits_value}
use Rattle.std.specs.Float.Numeral.{Parts}
use Rattle.std.proofs.lemmas.Float.Parse.{scan_numeral-text_of}
use Rattle.std.proofs.lemmas.Int.Digits.{digits_value-lt}
use Rattle.std.proofs.lemmas.List.{length-take-le}
use Rattle.std.proofs.lemmas.Str.{digit_value_digit}
use Rattle.std.proofs.lemmas.Str.Parse.{digit_at}
use Rattle.std.proofs.Math.Nat.{pow-le-pow_right}
use Rattle.fast_float.specs.Text.{scan, digits_of}
use Rattle.serde_json.specs.Data.{unsigned}
use Rattle.serde_json.specs.Read.{number_of, number_from, float_of, is_integer}

-- the parts of digits alone
abbrev parts : List ℕ → Parts
parts s = record { whole = s; point = false; fraction = []; exponent_negative = false; exponent = []; len = length s }

scanned : (s : List ℕ) → AllDigits 10 s → scan s ≡ parts s
scanned s digits = ap scan (sym (append-nil s)) ∙ scan_numeral-text_of (parts s) (record {
  whole_digits = digits;
  fraction_digits = tt;
  exponent_digits = tt;
  no_point = λ _. refl;
  no_exponent = λ _. refl;
  len_is = ap length (sym (append-nil s));
})

value_is : (s : List ℕ) → digits_of (parts s) ≡ digits_value 10 s
value_is s = ap (digits_value 10) (append-nil s)

no_minus : (s : List ℕ) → 0 < length s → AllDigits 10 s → (get_or s 0 0 == 45) ≡ false
no_minus s some digits = let first = digit_at s 0 digits some in grind (arith, first)

chosen : {A : Type 0} (b : Bool) (x y : A) → b ≡ true → (if b then x else y) ≡ x
chosen b x y is = ap (λ b. if b then x else y) is

read : (s : List ℕ) → 0 < length s → digits_of (parts s) < 2 ^ 64 → number_from false (parts s) ≡ Some (unsigned (digits_of (parts s)))
read s some small =
    let long : nat_lt 0 (length s) ≡ true = grind (arith, some) in
    let fits : nat_lt (digits_of (parts s)) (2 ^ 64) ≡ true = grind (arith, small) in
    chosen (is_integer (parts s) && nat_lt (digits_of (parts s)) (2 ^ 64)) (Some (unsigned (digits_of (parts s)))) (float_of false (parts s)) (λ i. ((long i && true) && true) && fits i)

-- Digits alone write their number.
pub number_is : (s : List ℕ) → IsNumeral 10 s → digits_value 10 s < 2 ^ 64 → number_of s ≡ Some (unsigned (digits_value 10 s))
unfolding number_of
number_is s numeral small =
    let unsigned_text : (get_or s 0 0 == 45) ≡ false = no_minus s numeral.0 numeral.1 in
    let front : number_of s ≡ number_from false (scan s) = ap (λ b. if b then number_from true (scan (drop 1 s)) else number_from false (scan s)) unsigned_text in
    front ∙ ap (number_from false) (scanned s numeral.1) ∙ read s numeral.0 (small_is s small) ∙ ap (λ n. Some (unsigned n)) (value_is s)
  where
    small_is : (s : List ℕ) → digits_value 10 s < 2 ^ 64 → digits_of (parts s) < 2 ^ 64
    small_is s small = omega (arith, small, value_is s)

-- one more digit after at most eight still fits 32 bits
pub digit_fits : (s : List ℕ) (i d : ℕ) → i < 9 → i ≤ length s → AllDigits 10 (take i s) → d < 10 → digits_value 10 (take i s) * 10 + d < 2 ^ 32
digit_fits s i d short inside digits small =
    let n : ℕ = digits_value 10 (take i s) in
    let below : n < 10 ^ i = subst (λ k. n < 10 ^ k) (length-take-le i s inside) (digits_value-lt 10 (take i s) digits) in
    let power : 10 ^ i ≤ 10 ^ 8 = pow-le-pow_right {n = 10} (lit< tt) (let eight : i ≤ 8 = omega arith in eight) in
    omega arith

-- a byte of the digits by its value
pub digit_is : (c : ℕ) → 48 ≤ c → c ≤ 57 → digit_value c ≡ c - 48
digit_is c low high = let value = digit_value_digit c (low, high) in omega (arith, value)
