use Rattle.std.proofs.Common.{length, sym, ap, ◌∙◌}
use Rattle.rela_pairs.proofs.Parting.{parts_count}
use Rattle.rela_pairs.proofs.lists.Lists.len.Goals as goal

pub returns : goal.returns
returns c =
    c.len.ensures ∙ c.self.inside.starts.ok.0 ∙ sym (parts_count c.self.inside.numbers.items c.self.inside.starts.items) ∙ ap length c.self.view_is
