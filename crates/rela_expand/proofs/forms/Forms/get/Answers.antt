use Rattle.std.proofs.Common.{◌<◌, length, sym, ap, ◌∙◌, arith}
use Rattle.rela_expand.specs.Forms.{shape_in, shapes_of}
use Rattle.rela_expand.specs.declared.forms.Form.{Form}
use Rattle.rela_expand.proofs.FormLaws.{as_many, shape_there}
use Rattle.rela_expand.proofs.forms.Forms.get.Goals as goal

pub returns-clause-shape : goal.returns-clause-shape
returns-clause-shape c =
    let inside : c.args.place < length c.args.self.now.forms.items = omega (arith, as_many c.args.self.now.forms.items, c.requires) in
    shape_there c.args.self.now.forms.items c.args.place c.index.result.now c.args.self.now.sound inside
    ∙ sym (ap (λ (f : Form). shape_in (shapes_of c.args.self.now.forms.items) f.layer) c.index.ensures)
