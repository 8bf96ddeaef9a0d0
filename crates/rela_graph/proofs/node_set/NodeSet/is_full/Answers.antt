use Rattle.std.proofs.Common.{◌≡◌, length, rules}
use Rattle.rela_graph.proofs.Flagged.{all_members}
use Rattle.rela_graph.proofs.node_set.NodeSet.is_full.Goals as goal

pub returns : goal.returns
returns c full =
    let same : length c.self.inside.members.items ≡ length c.self.inside.flags.items = search rules in
    rw (← c.self.view_is) (all_members c.self.inside.flags.items c.self.inside.members.items c.self.invariant same)
