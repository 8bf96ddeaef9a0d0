use Rattle.std.proofs.Common.{ℕ, ◌<◌, length}
use Rattle.std.specs.Prelude.{◌↔◌}
use Rattle.rela_branches.specs.Places.{AreBelow, Has, IsMarked}
use Rattle.rela_branches.proofs.places.gathered.Given as goal

abbrev pub invariant-loop-place : goal.invariant-loop-place
invariant-loop-place l = record {
  below : AreBelow (length l.marks) l.places.items;
  has : (i : ℕ) → Has l.places.items i ↔ ((i < l.place) × IsMarked l.marks i);
}
