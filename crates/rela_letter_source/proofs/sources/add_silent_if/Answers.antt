use Rattle.std.proofs.Common.{None, sym, subst}
use Rattle.rela_letter_source.specs.Growth.{Grows}
use Rattle.rela_letter_source.specs.Steps.{step_if, step_to}
use Rattle.rela_letter_source.proofs.GrownSteps.{grows_none}
use Rattle.rela_letter_source.proofs.sources.add_silent_if.Goals as goal

pub returns : goal.returns
returns c =
    let g = c.args.growing.now in
    subst (λ b. Grows (step_if b (step_to None c.args.to)) g g) (sym c.if-is_added.false) (grows_none g)
