use Rattle.std.proofs.Common.{◌≡◌, map, take, Some}
use Rattle.rela_nfa.specs.Runs.{StepIn}
use Rattle.rela_nfa.specs.StateSet.{Adds}
use Rattle.rela_nfa.specs.Stored.{move_of}
use Rattle.rela_subset.proofs.outgoing.insert_others.Given as goal

abbrev pub invariant-loop-edge : goal.invariant-loop-edge
invariant-loop-edge g l = record {
  count : l.visited.count ≡ l.fn.visited.count;
  adds : Adds (StepIn (map (λ edge. move_of g.L.LabelSet.letters edge.now) (take l.edge-index l.edges)) (Some l.letter)) l.fn.visited.states l.visited.states;
}
