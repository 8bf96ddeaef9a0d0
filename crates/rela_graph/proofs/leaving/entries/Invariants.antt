use Rattle.std.proofs.Common.{◌<◌}
use Rattle.std.specs.List.{All}
use Rattle.rela_graph.specs.Visit.{node_of}
use Rattle.rela_graph.proofs.leaving.entries.Given as goal

-- only nodes are entered
abbrev pub invariant-loop-n : goal.invariant-loop-n
invariant-loop-n l = All (λ visit. node_of visit < l.count) l.visits.items
