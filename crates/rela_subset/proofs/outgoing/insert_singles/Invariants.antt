use Rattle.std.proofs.Common.{◌≡◌, take}
use Rattle.rela_nfa.specs.StateSet.{Adds}
use Rattle.rela_subset.proofs.ByLetter.{IsEnd}
use Rattle.rela_subset.proofs.outgoing.insert_singles.Given as goal

abbrev pub invariant-loop-edge : goal.invariant-loop-edge
invariant-loop-edge l = record {
  count : l.visited.count ≡ l.fn.visited.count;
  adds : Adds (IsEnd (take l.edge-index l.edges)) l.fn.visited.states l.visited.states;
}
