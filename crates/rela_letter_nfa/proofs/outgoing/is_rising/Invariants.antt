use Rattle.std.proofs.Common.{◌≤◌, take}
use Rattle.std.specs.List.{All}
use Rattle.std.specs.List.Sorted.{IsNonDecreasingBy}
use Rattle.rela_letter_nfa.specs.declared.edge.LetterEdge.{LetterEdge}
use Rattle.rela_letter_nfa.proofs.outgoing.is_rising.Given as goal

abbrev pub invariant-loop-edge : goal.invariant-loop-edge
invariant-loop-edge l = record {
  rising : IsNonDecreasingBy (λ (e : LetterEdge). e.letter) (take l.edge-index l.edges);
  upto : All (λ (e : LetterEdge). e.letter ≤ l.last) (take l.edge-index l.edges);
}
