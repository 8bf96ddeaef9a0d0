use Rattle.std.proofs.Common.{◌≡◌, ◌++◌, take, map}
use Rattle.rela_graph.specs.declared.leaving.Visit.TheVariants.{Enter}
use Rattle.rela_graph.proofs.leaving.enter_all.Given as goal

-- the entries so far
abbrev pub invariant-loop-edge : goal.invariant-loop-edge
invariant-loop-edge l = l.visits.items ≡ l.fn.visits.items ++ map (λ link. Enter link.b) (take l.edge-index l.edges)
