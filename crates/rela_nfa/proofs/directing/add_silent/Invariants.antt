use Rattle.std.proofs.Common.{◌≡◌, map, take}
use Rattle.rela_nfa.specs.Directing.{extended, silent_labels}
use Rattle.rela_nfa.specs.Stored.{move_of}
use Rattle.rela_nfa.proofs.directing.add_silent.Given as goal

abbrev pub invariant-loop-source : goal.invariant-loop-source
invariant-loop-source g l =
    map (move_of g.L.LabelSet.letters) l.edges.items
    ≡ extended (map (move_of g.L.LabelSet.letters) l.fn.edges.items) (silent_labels (map (move_of g.L.LabelSet.letters) (take l.source-index l.sources))) l.targets
