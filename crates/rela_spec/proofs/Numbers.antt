-- Numbers in decimal, digit by digit.
use Rattle.std.proofs.Common.{◌≡◌, ℕ, suc, ◌+◌, ◌*◌, ◌<◌, ◌≤◌, true, false, if◌then◌else◌, Some, None, List, [], ◌∷◌, ◌++◌, length, take, get_or, sym, ap, ◌∙◌, arith, inl, inr}
use Rattle.std.specs.Char.{is_ascii_digit, digit_value}
use Rattle.std.specs.Str.Parse.{digits_value}
use Rattle.std.proofs.Math.Seq.{take-suc}
use Rattle.std.proofs.lemmas.Bool.{cases_Bool}
use Rattle.std.proofs.lemmas.Bool.Decides.{nat_tests}
use Rattle.std.proofs.lemmas.Int.Digits.{digits_value_push}
use Rattle.std.proofs.lemmas.List.Folds.{list_all_at}
use Rattle.std.proofs.lemmas.Str.Parse.{digits_value-take-le}
use Rattle.rela_spec.specs.GrammarWords.{is_number, is_good_number}

digit_at : (w : List ℕ) (i : ℕ) → i < length w → is_number w ≡ true → is_ascii_digit (get_or w i 0) ≡ true
digit_at w i lt all =
    elim (cases_Bool (is_ascii_digit (get_or w i 0))) [
      | inl holds ↦ holds
      | inr fails ↦ let never : true ≡ false = sym all ∙ list_all_at is_ascii_digit w i 0 lt fails in absurd (let clash = never in cc)
    ]

pub digits_more : (w : List ℕ) (i d value : ℕ) → i < length w → is_number w ≡ true → (is_ascii_digit (get_or w i 0) ≡ true → d ≡ digit_value (get_or w i 0))
    → value ≡ digits_value 10 (take i w) → value * 10 + d ≡ digits_value 10 (take (i + 1) w)
digits_more w i d value lt all is read =
    let digit : d ≡ digit_value (get_or w i 0) = is (digit_at w i lt all) in
    let push : digits_value 10 (take i w ++ get_or w i 0 ∷ []) ≡ digits_value 10 (take i w) * 10 + digit_value (get_or w i 0) = digits_value_push 10 (take i w) (get_or w i 0) in
    let one : i + 1 ≡ suc i = omega arith in
    let more : take (i + 1) w ≡ take i w ++ get_or w i 0 ∷ [] = ap (λ (n : ℕ). take n w) one ∙ take-suc w i 0 lt in
    omega (arith, digit, push, read, ap (digits_value 10) more)

pub too_great : (w : List ℕ) (i value : ℕ) → value ≡ digits_value 10 (take (i + 1) w) → 64 < value → None ≡ (if is_good_number w then Some (digits_value 10 w) else None)
too_great w i value read great =
    let least : digits_value 10 (take (i + 1) w) ≤ digits_value 10 w = digits_value-take-le 10 w (i + 1) (omega arith) in
    let more : 64 < digits_value 10 w = omega arith in
    grind (arith, nat_tests)
