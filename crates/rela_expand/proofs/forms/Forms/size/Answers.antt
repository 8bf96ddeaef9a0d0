use Rattle.std.proofs.Common.{◌<◌, length, ap, ◌∙◌, arith}
use Rattle.rela_expand.specs.declared.forms.Form.{Form}
use Rattle.rela_expand.proofs.FormLaws.{as_many, size_there}
use Rattle.rela_expand.proofs.forms.Forms.size.Goals as goal

pub returns : goal.returns
returns c =
    let inside : c.args.place < length c.args.self.now.forms.items = omega (arith, as_many c.args.self.now.forms.items, c.requires) in
    ap (λ (f : Form). f.size) c.index.ensures ∙ size_there c.args.self.now.forms.items c.args.place c.index.result.now c.args.self.now.sound inside
