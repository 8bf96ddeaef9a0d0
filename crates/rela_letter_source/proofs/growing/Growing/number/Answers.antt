use Rattle.std.proofs.Common.{sym, subst}
use Rattle.rela_letter_source.specs.Growth.{Fits}
use Rattle.rela_letter_source.specs.Growth.{Growth, IsFoundIn}
use Rattle.rela_letter_source.proofs.GrownSteps.{all_fit}
use Rattle.rela_letter_source.proofs.growing.Growing.number.Goals as goal

pub invariant_of-self : goal.invariant_of-self
invariant_of-self c =
    all_fit c.self.inside.shape c.self.inside.found c.number.new.self c.args.x c.self.invariant
    (subst (λ (v : Growth). Fits v.shape c.args.x) (sym c.self.view_is) c.requires) c.number.ensures.found

pub returns-clause-found : goal.returns-clause-found
returns-clause-found c = subst (λ (v : Growth). IsFoundIn v.found c.number.new.self c.args.x) c.self.view_is c.number.ensures.found
