use Rattle.std.proofs.Common.{ℕ, Option, sym, subst, ◌∙◌}
use Rattle.rela_letter_source.specs.Growth.{Grows}
use Rattle.rela_letter_source.specs.Steps.{read_to}
use Rattle.rela_letter_source.proofs.GrownSteps.{grows_none}
use Rattle.rela_letter_source.proofs.sources.add_read.Goals as goal

pub returns-in_default : goal.returns-in_default
returns-in_default c =
    let now = c.args.growing.now in
    subst (λ (told : Option ℕ). Grows (read_to told c.args.edge c.args.machine) now now) (sym c.in_default.is ∙ c.written_after.ensures) (grows_none now)
