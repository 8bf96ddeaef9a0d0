use Rattle.std.proofs.Common.{length, arith, ap}
use Rattle.rela_certfile.proofs.Joined.{no_prefix, row_place}
use Rattle.rela_certfile.proofs.layout.PlanLayout.find.Goals as goal

pub returns-in_err-names : goal.returns-in_err-names
returns-in_err-names c =
    rw c.from_residual.ensures (λ place from row. no_prefix c.args.self.now place c.args.line.now c.in_err-names.ensures row)

pub returns : goal.returns
returns c = λ place from row.
    c.loop-place.invariant place from (omega (arith, row_place c.args.self.now place c.args.line.now row, ap length c.planned-count.ensures)) row
