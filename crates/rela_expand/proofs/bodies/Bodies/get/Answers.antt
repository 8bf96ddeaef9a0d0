use Rattle.std.proofs.Common.{◌≤◌, length, subst, sym, ap, ◌∙◌}
use Rattle.rela_expand.specs.Bodies.{body_in, bodies_of, behind_parts, behind_paths}
use Rattle.rela_expand.specs.declared.bodies.BodyForm.{BodyForm}
use Rattle.rela_expand.proofs.BodyLaws.{body_there}
use Rattle.rela_expand.proofs.bodies.Bodies.get.Goals as goal

pub returns-clause-shape : goal.returns-clause-shape
returns-clause-shape c = λ paths sound.
    let forms = c.args.self.now.forms.items in
    body_there paths forms c.args.place c.index.result.now sound c.requires ∙ sym (ap (λ (f : BodyForm). body_in paths (bodies_of paths forms) f.layer) c.index.ensures)

pub returns-clause-below : goal.returns-clause-below
returns-clause-below c = λ paths sound.
    subst (λ (f : BodyForm). behind_parts f.layer ≤ c.args.place) (sym c.index.ensures) (sound.below c.args.place c.index.result.now c.requires)

pub returns-clause-zoned : goal.returns-clause-zoned
returns-clause-zoned c = λ paths sound.
    subst (λ (f : BodyForm). behind_paths f.layer ≤ length paths) (sym c.index.ensures) (sound.zoned c.args.place c.index.result.now c.requires)
