use Rattle.std.proofs.Common.{◌∙◌}
use Rattle.rela_snapshot.proofs.PairLoops.{no_nodes_is}
use Rattle.rela_snapshot.proofs.pairing.no_graph.Goals as goal

pub returns : goal.returns
returns c = no_nodes_is c.in_ok-graph.graph (c.in_ok-graph.ensures.nodes ∙ c.new.ensures.items) c.nodes.ensures.topology
