use Rattle.std.proofs.Common.{sym, subst}
use Rattle.rela_letter_source.specs.Growth.{Grows}
use Rattle.rela_letter_source.specs.Steps.{read_if}
use Rattle.rela_letter_source.proofs.GrownSteps.{grows_none}
use Rattle.rela_letter_source.proofs.sources.add_read_if.Goals as goal

pub returns : goal.returns
returns c =
    let g = c.args.growing.now in
    subst (λ b. Grows (read_if b c.args.edge c.args.writes c.args.machine) g g) (sym c.if-is_read.false) (grows_none g)
