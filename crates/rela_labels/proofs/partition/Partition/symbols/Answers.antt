use Rattle.std.proofs.Common.{sym, ap, ◌∙◌, vec_len}
use Rattle.rela_labels.specs.declared.base.Base.{Base}
use Rattle.rela_labels.proofs.ApartLeast.{size_of_value}
use Rattle.rela_labels.proofs.partition.Partition.symbols.Goals as goal

pub returns : goal.returns
returns c =
    c.len.ensures ∙ ap (λ (base : Base). vec_len base.blocks) c.deref.ensures ∙ c.self.inside.base.value.blocks.ok.0
    ∙ sym (size_of_value _ _ _ _ _ c.self.view_is)
