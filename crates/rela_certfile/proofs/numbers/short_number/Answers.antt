use Rattle.std.proofs.Common.{◌<◌, ◌*◌, ◌+◌, ◌^◌, take, refl, arith}
use Rattle.std.specs.Str.Parse.{digits_value}
use Rattle.std.proofs.lemmas.Int.Digits.{digits_more, digits_value_more}
use Rattle.rela_certfile.proofs.Numerals.{digit_fits, digit_of_digits}
use Rattle.rela_certfile.proofs.Exactly.{refused}
use Rattle.rela_certfile.proofs.numbers.short_number.Goals as goal
use Rattle.rela_certfile.proofs.numbers.short_number.Goals.{In_ok-digit}

pub returns-in_err-digit : goal.returns-in_err-digit
returns-in_err-digit c = refused _ _ c.from_residual.ensures (λ _ numeral.
    c.in_err-digit.ensures.value (rw c.from.ensures (digit_of_digits c.args.text.now c.loop-byte.byte-index numeral.0.1 (omega arith))))

-- the digit read, and that it is one
small : (c : In_ok-digit) → c.in_ok-digit.digit < 10
small c = rw c.in_ok-digit.ensures.value.1 c.in_ok-digit.ensures.value.0

room : (c : In_ok-digit) → c.loop-byte.number * 10 + c.in_ok-digit.digit < 2 ^ 64
room c =
    let fits : digits_value 10 (take c.loop-byte.byte-index c.args.text.now) * 10 + c.in_ok-digit.digit < 2 ^ 64 =
    digit_fits c.args.text.now c.loop-byte.byte-index c.in_ok-digit.digit (omega arith) (omega arith) c.loop-byte.invariant.digits (small c) in
    rw c.loop-byte.invariant.value fits

pub overflow_mul-number : goal.overflow_mul-number
overflow_mul-number c = omega (arith, room c)

pub overflow_add-number : goal.overflow_add-number
overflow_add-number c = omega (arith, room c)

pub loop-byte-preserved : goal.loop-byte-preserved
loop-byte-preserved c =
    record {
      digits = digits_more 10 c.args.text.now c.loop-byte.byte-index (omega arith) c.loop-byte.invariant.digits
          (rw (← c.from.ensures) c.in_ok-digit.ensures.value.0);
      value = rw (digits_value_more 10 c.args.text.now c.loop-byte.byte-index (omega arith), ← c.loop-byte.invariant.value, c.in_ok-digit.ensures.value.1, c.from.ensures) refl;
    }
