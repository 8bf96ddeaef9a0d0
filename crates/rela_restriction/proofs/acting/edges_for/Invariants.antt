use Rattle.std.proofs.Common.{◌≡◌, map, take}
use Rattle.rela_nfa.specs.Stored.{move_of as edge_of}
use Rattle.rela_trans.specs.Stored.{move_of}
use Rattle.rela_restriction.specs.Automata.{act_edge}
use Rattle.rela_restriction.proofs.acting.edges_for.Given as goal

abbrev pub invariant-loop-edge : goal.invariant-loop-edge
invariant-loop-edge g l = map (edge_of g.L.LabelSet.letters) l.edges.items ≡ map (act_edge l.letters) (map (move_of g.L.LabelSet.letters) (take l.edge-index l.moves))
