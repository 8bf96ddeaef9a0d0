use Rattle.std.proofs.Common.{◌≡◌, ℕ, List, Bool, length}
use Rattle.std.specs.List.Sorted.{IsNonDecreasingBy}
use Rattle.rela_subset.specs.Outgoing.{HasEnd}
use Rattle.rela_subset.specs.Splitting.{letters_left}
use Rattle.rela_subset.proofs.letter_edge.from_letter_in.Given as goal

abbrev pub invariant-loop-first : goal.invariant-loop-first
invariant-loop-first g l = record {
  rising : IsNonDecreasingBy (λ edge. edge.letter) l.coming;
  among : (k q : ℕ) → HasEnd l.coming k q → HasEnd l.edges k q;
  left : (rest : List Bool) → letters_left (g.L.LabelSet.letters l.set) l.coming rest ≡ letters_left (g.L.LabelSet.letters l.set) l.edges rest;
}

abbrev pub decreases-loop-first : goal.decreases-loop-first
decreases-loop-first g l = length l.coming
