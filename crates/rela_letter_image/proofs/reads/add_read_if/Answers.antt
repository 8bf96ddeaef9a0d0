use Rattle.std.proofs.Common.{sym, subst}
use Rattle.rela_letter_image.specs.Growth.{Grows}
use Rattle.rela_letter_image.specs.Steps.{step_if, step_to, written_by}
use Rattle.rela_letter_image.proofs.GrownSteps.{grows_none}
use Rattle.rela_letter_image.proofs.reads.add_read_if.Goals as goal

pub returns : goal.returns
returns c =
    let g = c.args.growing.now in
    subst (λ b. Grows (step_if b (step_to (written_by c.args.letter c.args.writes) c.args.to)) g g) (sym c.if-is_read.false) (grows_none g)
