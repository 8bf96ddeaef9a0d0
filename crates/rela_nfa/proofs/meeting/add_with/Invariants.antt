use Rattle.std.proofs.Common.{◌≡◌, map, take}
use Rattle.rela_nfa.specs.Directing.{extended, labels_with}
use Rattle.rela_nfa.specs.Stored.{move_of}
use Rattle.rela_nfa.proofs.meeting.add_with.Given as goal

abbrev pub invariant-loop-second : goal.invariant-loop-second
invariant-loop-second g l =
    map (move_of g.L.LabelSet.letters) l.edges.items
    ≡ extended (map (move_of g.L.LabelSet.letters) l.fn.edges.items)
    (labels_with (move_of g.L.LabelSet.letters l.first).label (map (move_of g.L.LabelSet.letters) (take l.second-index l.others))) l.targets
