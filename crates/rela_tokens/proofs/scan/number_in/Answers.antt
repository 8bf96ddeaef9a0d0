use Rattle.std.proofs.Common.{◌≡◌, ◌∙◌, ◌||◌, ◌<◌, ◌≤◌, Some, true, ap, drop, get_or, length, refl, sym, take, arith}
use Rattle.std.specs.Str.Parse.{AllDigits, digits_value}
use Rattle.std.proofs.lemmas.Int.Digits.{digits_more, digits_value_more}
use Rattle.std.proofs.lemmas.List.{length-take-le}
use Rattle.serde_json.specs.Data.{unsigned}
use Rattle.json.specs.Word.{ends_word, is_operator, is_space}
use Rattle.rela_tokens.proofs.Lexemes.{digits_are_number, first_taken, head_at, number_lexeme}
use Rattle.rela_tokens.proofs.WholeNumbers.{digit_fits, digit_is, number_is}
use Rattle.rela_tokens.proofs.scan.number_in.Goals as goal

pub overflow_mul-number : goal.overflow_mul-number
overflow_mul-number c =
    let s = c.args.text.now in
    let fits = digit_fits s c.digits.count 0 (omega arith) (omega arith) c.digits.invariant.digits (omega arith) in
    omega (arith, fits, c.digits.invariant.value)

pub overflow_add-number : goal.overflow_add-number
overflow_add-number c =
    let s = c.args.text.now in
    let digit = c.if-is_ascii_digit.ensures.cases in
    let small : c.from.result < 10 = omega (arith, c.from.ensures, digit.0, digit.1) in
    let fits = digit_fits s c.digits.count c.from.result (omega arith) (omega arith) c.digits.invariant.digits small in
    omega (arith, fits, c.digits.invariant.value)

pub digits-preserved : goal.digits-preserved
digits-preserved c =
    let s = c.args.text.now in
    let i = c.digits.count in
    let digit = c.if-is_ascii_digit.ensures in
    record {
      digits = digits_more 10 s i (omega arith) c.digits.invariant.digits digit.bound;
      value = rw (digits_value_more 10 s i (omega arith), ← c.digits.invariant.value, digit_is (get_or s i 0) digit.cases.0 digit.cases.1, c.from.ensures) refl;
      within = omega arith;
      short = omega arith;
    }

pub returns-then-ends_number-clause-number : goal.returns-then-ends_number-clause-number
returns-then-ends_number-clause-number c =
    let s = c.args.text.now in
    let i = c.digits.count in
    let t = take i s in
    let within : i ≤ length s = c.digits.invariant.within in
    let long : length t ≡ i = length-take-le i s within in
    let more : 0 < i = omega arith in
    let some : 0 < length t = omega arith in
    let digits : AllDigits 10 t = c.digits.invariant.digits in
    let value : digits_value 10 t ≡ c.digits.number = sym c.digits.invariant.value in
    let ended : ends_word (drop i s) ≡ true =
    ap (λ b. is_operator b || is_space b) (head_at s i ∙ sym c.byte_at.ensures.byte) ∙ sym c.ends_number.ensures ∙ c.if-ends_number.true in
    let one = λ (zero : get_or t 0 32 ≡ 48). long ∙ c.has_no_zero_before.ensures c.if-has_no_zero_before.true (sym (first_taken i s more) ∙ zero) in (
      t,
      number_lexeme s i (digits_are_number t some digits one) ended,
      number_is t (some, digits) (omega (arith, value)) ∙ ap (λ n. Some (unsigned n)) value,
    )
