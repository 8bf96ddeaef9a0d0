use Rattle.std.proofs.Common.{◌≡◌, ℕ, ◌<◌, length, slice_index}
use Rattle.rela_labels.specs.Partition.{IsLeastOf}
use Rattle.rela_complement.proofs.merging.least_letters.Given as goal

-- those of the classes so far
abbrev pub invariant-loop-class : goal.invariant-loop-class
invariant-loop-class l = record {
  len : length l.letters.items ≡ l.class;
  least : (c : ℕ) → c < l.class → IsLeastOf l.classes c (slice_index l.letters.items c);
}
