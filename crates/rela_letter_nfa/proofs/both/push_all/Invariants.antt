use Rattle.std.proofs.Common.{◌≡◌, ◌++◌, map, take}
use Rattle.rela_letter_nfa.specs.Pair.{edge_behind}
use Rattle.rela_letter_nfa.proofs.both.push_all.Given as goal

abbrev pub invariant-loop-edge : goal.invariant-loop-edge
invariant-loop-edge l = l.edges.items ≡ l.fn.edges.items ++ map (edge_behind l.before) (take l.edge-index l.others)
