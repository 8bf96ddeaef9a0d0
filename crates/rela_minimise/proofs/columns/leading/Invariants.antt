use Rattle.std.proofs.Common.{◌≡◌, map, drop}
use Rattle.rela_nfa.specs.Stored.{move_of}
use Rattle.rela_subset.specs.Deterministic.{moves_of, target}
use Rattle.rela_minimise.proofs.columns.leading.Given as goal

abbrev pub invariant-loop-edge : goal.invariant-loop-edge
invariant-loop-edge g l =
    target (moves_of l.dfa l.q) l.letter
    ≡ target (map (move_of g.L.LabelSet.letters) (drop l.edge-index l.edges)) l.letter
