use Rattle.std.proofs.Common.{◌≡◌, ◌≢◌, ℕ, List, Bool, length}
use Rattle.std.specs.List.Sorted.{IsNonDecreasingBy}
use Rattle.rela_labels.specs.Letters.{has}
use Rattle.rela_subset.specs.Outgoing.{HasEnd}
use Rattle.rela_subset.specs.Splitting.{letters_left}
use Rattle.rela_subset.proofs.letter_edge.past_letter.Given as goal

abbrev pub invariant-loop-first : goal.invariant-loop-first
invariant-loop-first l = record {
  rising : IsNonDecreasingBy (λ edge. edge.letter) l.coming;
  among : (k q : ℕ) → HasEnd l.coming k q → HasEnd l.edges k q;
  left : (over rest : List Bool) (k : ℕ) → k ≢ l.letter → has (letters_left over l.coming rest) k ≡ has (letters_left over l.edges rest) k;
}

abbrev pub decreases-loop-first : goal.decreases-loop-first
decreases-loop-first l = length l.coming
