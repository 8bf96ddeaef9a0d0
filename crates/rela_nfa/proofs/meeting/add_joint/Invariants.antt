use Rattle.std.proofs.Common.{◌≡◌, [], map, take}
use Rattle.std.specs.List.{flat_map}
use Rattle.rela_nfa.specs.Automaton.{moves_of}
use Rattle.rela_nfa.specs.Directing.{extended, silent_labels, labels_with}
use Rattle.rela_nfa.specs.Stored.{move_of}
use Rattle.rela_nfa.proofs.meeting.add_joint.Given as goal

abbrev pub invariant-loop-edge : goal.invariant-loop-edge
invariant-loop-edge g l =
    map (move_of g.L.LabelSet.letters) l.edges.items
    ≡ extended (extended (extended [] (silent_labels (moves_of l.fn.first l.fn.pair.left)) l.targets) (silent_labels (moves_of l.fn.second l.fn.pair.right)) l.targets)
    (flat_map (λ m. labels_with m.label (moves_of l.fn.second l.fn.pair.right)) (map (move_of g.L.LabelSet.letters) (take l.edge-index l.left))) l.targets
