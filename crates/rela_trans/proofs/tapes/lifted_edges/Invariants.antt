use Rattle.std.proofs.Common.{◌≡◌, map, take}
use Rattle.rela_nfa.specs.Stored.{move_of as edge_of}
use Rattle.rela_trans.specs.Stored.{move_of}
use Rattle.rela_trans.specs.Tapes.{lifted}
use Rattle.rela_trans.proofs.tapes.lifted_edges.Given as goal

abbrev pub invariant-loop-edge : goal.invariant-loop-edge
invariant-loop-edge g l = map (move_of g.L.LabelSet.letters) l.moves.items ≡ map (lifted l.tape) (map (edge_of g.L.LabelSet.letters) (take l.edge-index l.edges))
