use Rattle.std.proofs.Common.{◌≡◌, ℕ, drop, length}
use Rattle.std.specs.Prelude.{◌⊎◌, ◌↔◌}
use Rattle.rela_branches.specs.Places.{Has, IsMarked}
use Rattle.rela_branches.proofs.places.mark_all.Given as goal

abbrev pub invariant-loop-place : goal.invariant-loop-place
invariant-loop-place l = record {
  long : length l.marks ≡ length l.initial.marks;
  has : (i : ℕ) → (IsMarked l.marks i ⊎ Has (drop l.place-index l.places) i) ↔ (IsMarked l.initial.marks i ⊎ Has l.places i);
}
