use Rattle.std.proofs.Common.{◌≡◌, length}
use Rattle.std.specs.List.Sorted.{IsNonDecreasingBy}
use Rattle.rela_letter_nfa.proofs.EdgesOut.{IsPassing}
use Rattle.rela_letter_nfa.proofs.outgoing.insert_ends.Given as goal

abbrev pub invariant-loop-first : goal.invariant-loop-first
invariant-loop-first l = record {
  count : l.visited.count ≡ l.fn.visited.count;
  rising : IsNonDecreasingBy (λ edge. edge.letter) l.rest;
  passing : IsPassing l.letter l.edges l.rest l.fn.visited.states l.visited.states;
}

abbrev pub decreases-loop-first : goal.decreases-loop-first
decreases-loop-first l = length l.rest
