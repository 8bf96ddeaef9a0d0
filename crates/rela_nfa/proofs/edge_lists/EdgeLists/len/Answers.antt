use Rattle.std.proofs.Common.{length, map, sym, ap, ◌∙◌}
use Rattle.rela_nfa.specs.Stored.{move_of}
use Rattle.rela_nfa.proofs.Parted.{parts_count}
use Rattle.rela_nfa.proofs.edge_lists.EdgeLists.len.Goals as goal

pub returns : goal.returns
returns g c =
    c.len.ensures ∙ c.self.inside.starts.ok.0 ∙ sym (parts_count (map (move_of g.L.LabelSet.letters) c.self.inside.edges.items) c.self.inside.starts.items)
    ∙ ap length c.self.view_is
