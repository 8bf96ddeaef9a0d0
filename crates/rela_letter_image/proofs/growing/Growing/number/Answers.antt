use Rattle.std.proofs.Common.{sym, subst}
use Rattle.rela_pairs.specs.Places.{Fits}
use Rattle.rela_letter_image.specs.Growth.{Growth, IsFoundIn}
use Rattle.rela_letter_image.proofs.GrownSteps.{all_fit}
use Rattle.rela_letter_image.proofs.growing.Growing.number.Goals as goal

pub invariant_of-self : goal.invariant_of-self
invariant_of-self c =
    all_fit c.self.inside.shape c.self.inside.found c.number.new.self c.args.pair c.self.invariant
    (subst (λ (v : Growth). Fits v.shape c.args.pair) (sym c.self.view_is) c.requires) c.number.ensures.found

pub returns-clause-found : goal.returns-clause-found
returns-clause-found c = subst (λ (v : Growth). IsFoundIn v.pairs c.number.new.self c.args.pair) c.self.view_is c.number.ensures.found
