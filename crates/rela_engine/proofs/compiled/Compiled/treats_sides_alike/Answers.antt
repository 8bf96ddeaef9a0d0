use Rattle.std.proofs.Common.{◌≡◌, ap, subst}
use Rattle.rela_translate.specs.Checked.{Checked}
use Rattle.rela_engine.specs.Compilation.{Compilation}
use Rattle.rela_engine.specs.Sides.{TreatsSidesAlike}
use Rattle.rela_engine.proofs.AlikeBodies.{same_pairs}
use Rattle.rela_engine.proofs.compiled.Compiled.treats_sides_alike.Goals as goal

pub returns-clause-relations : goal.returns-clause-relations
returns-clause-relations c alike =
    let same : c.self.inside.check.now ≡ c.args.self.now.check = ap (λ (x : Compilation). x.check) c.self.view_is in
    same_pairs c.args.self.now.check.classes c.args.self.now.locations c.args.self.now.check.body
    (subst (λ (check : Checked). TreatsSidesAlike check.body) same (c.self.invariant.1.0 alike))
