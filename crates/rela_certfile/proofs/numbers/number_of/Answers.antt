use Rattle.std.proofs.Common.{◌≡◌, ◌≤◌, ◌<◌, ◌^◌, ◌↔◌, ℕ, Bool, true, false, IsTrue, List, Some, None, length, get_or, ⊎_elim, arith, refl}
use Rattle.std.proofs.lemmas.Bool.{cases_lt}
use Rattle.std.specs.Str.Parse.{IsNumeral, digits_value}
use Rattle.std.specs.Fmt.{decimal}
use Rattle.rela_certfile.proofs.Numerals.{decimal_of_numeral, numeral_of_decimal, no_leading_zero}
use Rattle.rela_certfile.proofs.Exactly.{refused, given}
use Rattle.rela_certfile.proofs.numbers.number_of.Goals as goal

pub returns-then-has_leading_zero : goal.returns-then-has_leading_zero
returns-then-has_leading_zero c = refused _ _ refl (λ n writes.
    let zero = c.has_leading_zero.ensures.0 c.if-has_leading_zero.true in
    no_leading_zero c.args.text.now n zero.0 zero.1 writes.0 writes.1)

pub returns-in_err-number : goal.returns-in_err-number
returns-in_err-number c = refused _ _ c.from_residual.ensures (λ n writes.
    let some : None ≡ Some n = (c.in_err-number.ensures n).1 (numeral_of_decimal c.args.text.now n writes.0 writes.1) in cc)

-- the number read is the only one that the text can write
only : (text : List ℕ) (m : ℕ) → ((k : ℕ) → (Some m ≡ Some k) ↔ (IsNumeral 10 text × (length text ≤ 10) × (k ≡ digits_value 10 text))) → (n : ℕ) → (n < 2 ^ 32) × (text ≡ decimal n) → n ≡ m
only text m read n writes =
    let some : Some m ≡ Some n = (read n).1 (numeral_of_decimal text n writes.0 writes.1) in cc

-- without a leading zero, one that begins with a zero is short
plainly : (text : List ℕ) (r : Bool) → IsTrue r ↔ ((1 < length text) × (get_or text 0 0 ≡ 48)) → r ≡ false → get_or text 0 0 ≡ 48 → length text ≤ 1
plainly text r tells fails first = ⊎_elim
    (λ (long : 1 < length text). let yes : r ≡ true = tells.1 (long, first) in cc)
    (λ (short : length text ≤ 1). short)
    (cases_lt 1 (length text))

pub returns-then-number : goal.returns-then-number
returns-then-number c =
    let text : List ℕ = c.args.text.now in
    let plain : get_or text 0 0 ≡ 48 → length text ≤ 1 =
    plainly text c.has_leading_zero.result c.has_leading_zero.ensures c.if-has_leading_zero.false in
    let small : c.in_ok-number.number < 2 ^ 32 = omega arith in
    given _ _ c.in_ok-number.number refl
    (small, decimal_of_numeral text c.in_ok-number.number plain small ((c.in_ok-number.ensures c.in_ok-number.number).0 refl))
    (only text c.in_ok-number.number c.in_ok-number.ensures)

pub returns-else-number : goal.returns-else-number
returns-else-number c = refused _ _ refl (λ n writes.
    let same : n ≡ c.in_ok-number.number = only c.args.text.now c.in_ok-number.number c.in_ok-number.ensures n writes in
    let fits : n < 2 ^ 32 = writes.0 in
    omega arith)
