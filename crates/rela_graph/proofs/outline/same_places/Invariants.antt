use Rattle.std.proofs.Common.{◌≡◌, map, take}
use Rattle.rela_graph.specs.Topology.{symbol_at}
use Rattle.rela_graph.proofs.outline.same_places.Given as goal

-- the nodes so far have the same locations
abbrev pub invariant-loop-n : goal.invariant-loop-n
invariant-loop-n l = take l.n (map (symbol_at l.level) l.nodes) ≡ take l.n (map (symbol_at l.other_level) l.others)
