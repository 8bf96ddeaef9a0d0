use Rattle.std.proofs.Common.{◌≡◌, map, take}
use Rattle.rela_nfa.specs.Runs.{StepIn}
use Rattle.rela_nfa.specs.StateSet.{Adds}
use Rattle.rela_nfa.specs.Stored.{move_of}
use Rattle.rela_nfa.proofs.nfa.Nfa.follow_all.Given as goal

abbrev pub invariant-loop-edge : goal.invariant-loop-edge
invariant-loop-edge g l = record {
  count : l.set.count ≡ l.fn.set.count;
  adds : Adds (StepIn (map (move_of g.L.LabelSet.letters) (take l.edge-index l.edge-items)) l.letter) l.fn.set.states l.set.states;
}
