use Rattle.rela_graph.proofs.Links.{same_edges, still_ordered}
use Rattle.rela_graph.proofs.graph.sorted.Goals as goal

pub returns-clause-same : goal.returns-clause-same
returns-clause-same c link =
    rw (c.in_ok-edges.ensures.items) at (same_edges c.in_ok-edges.edges.items c.sort_unstable.new.self.items c.dedup.new.self.items c.sort_unstable.ensures.permutation c.sort_unstable.ensures.sorted c.dedup.ensures.filtered link)

pub returns-clause-ordered : goal.returns-clause-ordered
returns-clause-ordered c =
    still_ordered c.in_ok-edges.edges.items c.sort_unstable.new.self.items c.dedup.new.self.items c.sort_unstable.ensures.permutation c.sort_unstable.ensures.sorted c.dedup.ensures.filtered
