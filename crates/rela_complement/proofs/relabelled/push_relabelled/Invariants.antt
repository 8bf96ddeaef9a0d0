use Rattle.std.proofs.Common.{◌≡◌, ◌++◌, map, take}
use Rattle.rela_nfa.specs.Relabelling.{relabelled_move}
use Rattle.rela_nfa.specs.Stored.{move_of}
use Rattle.rela_complement.proofs.relabelled.push_relabelled.Given as goal

-- those so far
abbrev pub invariant-loop-edge : goal.invariant-loop-edge
invariant-loop-edge l =
    map (move_of (λ set. set)) l.edges.items
    ≡ map (move_of (λ set. set)) l.initial.edges.items ++ map (relabelled_move l.letters) (map (move_of (λ set. set)) (take l.edge-index l.others))
