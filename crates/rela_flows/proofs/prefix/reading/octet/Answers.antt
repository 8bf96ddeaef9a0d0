use Rattle.std.proofs.Common.{◌≡◌, ◌≤◌, ◌<◌, ◌↔◌, ℕ, List, Some, None, length, get_or, arith, refl}
use Rattle.std.specs.Str.Parse.{IsNumeral, digits_value}
use Rattle.rela_flows.specs.Notation.{IsOctet}
use Rattle.rela_flows.proofs.Numerals.{octet_of_numeral, numeral_of_octet, no_leading_zero}
use Rattle.rela_flows.proofs.Exactly.{refused, given}
use Rattle.rela_flows.proofs.prefix.reading.octet.Goals as goal
use Rattle.rela_flows.proofs.prefix.reading.octet.Goals.{else-text-gt1-via-then-text-gt1+else-text-eq48, else-text-gt1-via-else-text-gt1}

pub returns-then-text-eq48 : goal.returns-then-text-eq48
returns-then-text-eq48 c = refused _ _ refl (λ n octet. no_leading_zero c.args.text.now n c.if-text-gt1.true c.if-text-eq48.true octet)

pub returns-in_err-number : goal.returns-in_err-number
returns-in_err-number c = refused _ _ c.from_residual.ensures (λ n octet.
    let some : None ≡ Some n = (c.in_err-number.ensures n).1 (numeral_of_octet c.args.text.now n octet) in cc)

-- the number read is the only one that the text can write
only : (text : List ℕ) (m : ℕ) → ((k : ℕ) → (Some m ≡ Some k) ↔ (IsNumeral 10 text × (length text ≤ 4) × (k ≡ digits_value 10 text))) → (n : ℕ) → IsOctet text n → n ≡ m
only text m read n octet =
    let some : Some m ≡ Some n = (read n).1 (numeral_of_octet text n octet) in cc

pub returns-then-number-lt256 : goal.returns-then-number-lt256
returns-then-number-lt256 c =
    let text : List ℕ = c.args.text.now in
    let plain : get_or text 0 0 ≡ 48 → length text ≤ 1 =
    λ first. elim c.else-text-gt1.branch [ else-text-gt1-via-then-text-gt1+else-text-eq48 w ↦ absurd (w.if-text-eq48.false first) | else-text-gt1-via-else-text-gt1 w ↦ w.if-text-gt1.false ] in
    given _ _ c.in_ok-number.number refl
    (octet_of_numeral text c.in_ok-number.number plain c.if-number-lt256.true ((c.in_ok-number.ensures c.in_ok-number.number).0 refl))
    (only text c.in_ok-number.number c.in_ok-number.ensures)

pub returns-else-number-lt256 : goal.returns-else-number-lt256
returns-else-number-lt256 c = refused _ _ refl (λ n octet.
    let same : n ≡ c.in_ok-number.number = only c.args.text.now c.in_ok-number.number c.in_ok-number.ensures n octet in
    let fits : n < 256 = octet.fits in
    let above : 256 ≤ c.in_ok-number.number = c.if-number-lt256.false in
    omega arith)
