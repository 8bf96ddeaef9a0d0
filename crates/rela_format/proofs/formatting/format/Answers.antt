use Rattle.std.proofs.Common.{◌≡◌, Err, arith}
use Rattle.rela_inputs.specs.declared.reading.Halt.TheVariants.{Memory}
use Rattle.rela_format.specs.Formats.{Formats}
use Rattle.rela_format.proofs.FormatLaws.{printed}
use Rattle.rela_format.proofs.Points.{at_spec}
use Rattle.rela_format.proofs.formatting.format.Goals as goal

pub returns-in_err-file-clause-given : goal.returns-in_err-file-clause-given
unfolding Formats
returns-in_err-file-clause-given g c =
    let fault : c.from_residual.result ≡ Err c.in_err-file.field-0.0 = grind arith in
    rw fault ((c.steps_chain.ensures _ _ (at_spec _ _)).stopped c.in_err-file.field-0.0 c.in_err-file.ensures.given)

pub returns-in_err-file-clause-ends : goal.returns-in_err-file-clause-ends
returns-in_err-file-clause-ends g c =
    let fault : c.from_residual.result ≡ Err c.in_err-file.field-0.0 = grind arith in
    rw fault (record { ok_keeps_count = tt; ok_given = tt; halts = c.in_err-file.ensures.ends.halts })

pub returns-clause-given : goal.returns-clause-given
unfolding Formats
returns-clause-given g c =
    (c.steps_chain.ensures _ _ (at_spec _ _)).settled c.in_ok-file.file _ (λ other same. same) c.in_ok-file.ensures.given
    (printed _ _ c.in_ok-file.file _ c.in_ok-print.ensures.canonical)

pub returns-in_err-print-clause-given : goal.returns-in_err-print-clause-given
returns-in_err-print-clause-given g c =
    let fault : c.from_residual-in_err-print.result ≡ Err Memory = grind arith in
    rw fault (record { told_by = tt; alone = λ t x steps. tt })

pub returns-in_err-print-clause-ends : goal.returns-in_err-print-clause-ends
returns-in_err-print-clause-ends g c =
    let fault : c.from_residual-in_err-print.result ≡ Err Memory = grind arith in
    rw fault (record { ok_keeps_count = tt; ok_given = tt; halts = c.in_ok-file.ensures.ends.ok_keeps_count })
