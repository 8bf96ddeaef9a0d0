use Rattle.std.proofs.Common.{ap}
use Rattle.rela_translate.specs.Checked.{Checked}
use Rattle.rela_translate.proofs.checks.Check.at_most.Goals as goal

pub returns : goal.returns
returns c = ap (λ (check : Checked). check.at_most) c.self.view_is
