use Rattle.rela_graph.proofs.Adjacent.{not_before, parted_here}
use Rattle.rela_graph.proofs.graph.edges_before.Goals as goal

pub returns-else-edges-before-clause-parted : goal.returns-else-edges-before-clause-parted
returns-else-edges-before-clause-parted c =
    parted_here c.args.edges.now c.args.n c.edges.before c.requires.ordered c.edges.invariant.each (λ d within. not_before _ _ _ d _ within c.if-edges-before.false)
