use Rattle.std.proofs.Common.{refl}
use Rattle.rela_certfile.proofs.Exactly.{refused, given}
use Rattle.rela_certfile.proofs.WordLines.{uncut, no_parent, no_symbol, step_with, word_is, word_only}
use Rattle.rela_certfile.proofs.numbers.step_of.Goals as goal

pub returns-in_err-parent : goal.returns-in_err-parent
returns-in_err-parent c = refused _ _ c.from_residual.ensures (λ step is. uncut c.args.line.now step c.in_err-parent.ensures is)

pub returns-in_err-number_of : goal.returns-in_err-number_of
returns-in_err-number_of c = refused _ _ c.from_residual-in_err-number_of.ensures (λ step is.
    no_parent c.args.line.now _ _ step c.in_ok-parent.ensures c.in_err-number_of.ensures is)

pub returns-in_err-number_of-2 : goal.returns-in_err-number_of-2
returns-in_err-number_of-2 c = refused _ _ c.from_residual-in_err-number_of-2.ensures (λ step is.
    no_symbol c.args.line.now _ _ step c.in_ok-parent.ensures c.in_err-number_of-2.ensures is)

pub returns : goal.returns
returns c =
    given _ _ (step_with c.in_ok-number_of.field-0 c.in_ok-number_of-2.field-0) refl
    (word_is c.args.line.now _ _ c.in_ok-number_of.field-0 c.in_ok-number_of-2.field-0 c.in_ok-parent.ensures c.in_ok-number_of.ensures c.in_ok-number_of-2.ensures)
    (word_only c.args.line.now _ _ c.in_ok-number_of.field-0 c.in_ok-number_of-2.field-0 c.in_ok-parent.ensures c.in_ok-number_of.ensures c.in_ok-number_of-2.ensures)
