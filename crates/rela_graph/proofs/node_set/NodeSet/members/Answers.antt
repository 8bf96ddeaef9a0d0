use Rattle.rela_graph.proofs.Flagged.{members_within}
use Rattle.rela_graph.proofs.node_set.NodeSet.members.Goals as goal

pub returns-clause-below : goal.returns-clause-below
returns-clause-below c = rw (← c.self.view_is) (members_within c.self.inside.flags.items c.self.inside.members.items c.self.invariant)
