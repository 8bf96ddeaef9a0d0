use Rattle.std.proofs.Common.{ℕ, drop}
use Rattle.std.specs.Prelude.{◌⊎◌, ◌↔◌, MatchBool}
use Rattle.rela_branches.specs.Places.{AreBelow, Has}
use Rattle.rela_branches.proofs.places.kept.Given as goal

abbrev pub invariant-loop-place : goal.invariant-loop-place
invariant-loop-place l = record {
  below : AreBelow l.bound l.kept.items;
  has : (i : ℕ) → (Has l.kept.items i ⊎ (Has (drop l.place-index l.first) i × MatchBool l.common (Has l.second i) (¬ Has l.second i)))
      ↔ (Has l.first i × MatchBool l.common (Has l.second i) (¬ Has l.second i));
}
