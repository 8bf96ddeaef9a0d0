use Rattle.std.proofs.Common.{◌≡◌, ℕ, drop, length}
use Rattle.std.specs.Prelude.{◌⊎◌, ◌↔◌}
use Rattle.rela_branches.specs.Places.{Has, IsMarked, Leads}
use Rattle.rela_branches.proofs.places.next.Given as goal

abbrev pub invariant-loop-place : goal.invariant-loop-place
invariant-loop-place l = record {
  long : length l.marks.items ≡ length l.rows;
  has : (j : ℕ) → (IsMarked l.marks.items j ⊎ ((i : ℕ) × Has (drop l.place-index l.from) i × Leads l.rows i j)) ↔ ((i : ℕ) × Has l.from i × Leads l.rows i j);
}
