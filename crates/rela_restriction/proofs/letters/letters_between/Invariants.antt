use Rattle.std.proofs.Common.{◌≡◌, ℕ, ◌<◌, ◌≤◌, true, length}
use Rattle.rela_labels.specs.Letters.{has}
use Rattle.rela_restriction.proofs.letters.letters_between.Given as goal

abbrev pub invariant-loop-letter : goal.invariant-loop-letter
invariant-loop-letter g l = record {
  size : length (g.L.LabelSet.letters l.set) ≡ l.size;
  all : (k : ℕ) → l.from ≤ k → k < l.letter → has (g.L.LabelSet.letters l.set) k ≡ true;
  only : (k : ℕ) → has (g.L.LabelSet.letters l.set) k ≡ true → (l.from ≤ k) × (k < l.to);
}
