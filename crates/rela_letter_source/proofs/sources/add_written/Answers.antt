use Rattle.std.proofs.Common.{Option, sym, subst}
use Rattle.rela_letter_source.specs.Growth.{Grows}
use Rattle.rela_letter_source.specs.Steps.{write_by}
use Rattle.rela_letter_source.specs.declared.next.Next.{Next}
use Rattle.rela_letter_source.proofs.GrownSteps.{grows_none}
use Rattle.rela_letter_source.proofs.sources.add_written.Goals as goal

pub returns-in_default : goal.returns-in_default
returns-in_default c =
    let now = c.args.growing.now in
    subst (λ (told : Option Next). Grows (write_by told c.args.set.now c.args.path c.args.machine) now now) (sym c.in_default.is) (grows_none now)
