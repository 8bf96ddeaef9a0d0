use Rattle.std.proofs.Common.{ap, ◌∙◌}
use Rattle.rela_expand.specs.declared.bodies.BodyForm.{BodyForm}
use Rattle.rela_expand.proofs.BodyLaws.{size_there}
use Rattle.rela_expand.proofs.bodies.Bodies.size.Goals as goal

pub returns : goal.returns
returns c = λ paths sound.
    ap (λ (f : BodyForm). f.size) c.index.ensures ∙ size_there paths c.args.self.now.forms.items c.args.place c.index.result.now sound c.requires
