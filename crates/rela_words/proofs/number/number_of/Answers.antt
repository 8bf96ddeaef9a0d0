use Rattle.std.proofs.Common.{None, Some, refl}
use Rattle.rela_words.proofs.Numbers.{none_first, low_first, high_first, none_read, unparsed, few_read, many_read}
use Rattle.rela_words.proofs.number.number_of.Goals as goal

pub returns-in_err-first : goal.returns-in_err-first
returns-in_err-first c =
    none_read c.args.most c.args.word.now c.from_residual.result c.from_residual.ensures
    (none_first c.args.most c.requires c.args.word.now c.as_bytes.result.now c.as_bytes.ensures.value None c.in_err-first.ensures.value refl)

pub returns-then-branch-lt49 : goal.returns-then-branch-lt49
returns-then-branch-lt49 c =
    none_read c.args.most c.args.word.now None refl
    (low_first c.args.most c.requires c.args.word.now c.as_bytes.result.now c.as_bytes.ensures.value (Some c.in_ok-first.field-0.now) c.in_ok-first.ensures.value
    c.in_ok-first.field-0.now refl c.if-branch-lt49.true)

pub returns-in_err-number : goal.returns-in_err-number
returns-in_err-number c =
    none_read c.args.most c.args.word.now c.from_residual-in_err-number.result c.from_residual-in_err-number.ensures
    (unparsed c.args.most c.requires c.args.word.now c.parse.result c.parse.ensures.value.0 c.in_err-number.ensures.value)

pub returns-then-number-most : goal.returns-then-number-most
returns-then-number-most c =
    few_read c.args.most c.requires c.args.word.now c.parse.result c.parse.ensures.value.0 c.in_ok-number.number
    (high_first c.args.most c.requires c.args.word.now c.as_bytes.result.now c.as_bytes.ensures.value (Some c.in_ok-first.field-0.now) c.in_ok-first.ensures.value
    c.in_ok-first.field-0.now refl c.if-branch-lt49.false)
    c.in_ok-number.ensures.value c.if-number-most.true

pub returns-else-number-most : goal.returns-else-number-most
returns-else-number-most c =
    none_read c.args.most c.args.word.now None refl
    (many_read c.args.most c.requires c.args.word.now c.parse.result c.parse.ensures.value.0 c.in_ok-number.number c.in_ok-number.ensures.value c.if-number-most.false)
