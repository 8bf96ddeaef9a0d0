use Rattle.std.proofs.Common.{◌≡◌, ◌-◌, ◌≤◌, ℕ, [], ◌∷◌, length}
use Rattle.rela_letter_image.specs.Branches.{ends_of}
use Rattle.rela_letter_image.proofs.branches.each_alone.Given as goal

abbrev pub invariant-loop-kept : goal.invariant-loop-kept
invariant-loop-kept l = record {
  within : length l.kept.items ≤ l.count;
  alone : (q : ℕ) → ends_of l.kept.items q ≡ q ∷ [];
}

abbrev pub decreases-loop-kept : goal.decreases-loop-kept
decreases-loop-kept l = l.count - length l.kept.items
