use Rattle.std.proofs.Common.{◌≡◌, ℕ, ◌+◌, drop, length}
use Rattle.std.specs.Prelude.{◌⊎◌, ◌↔◌}
use Rattle.rela_translate.specs.Zones.{path_symbols}
use Rattle.rela_branches.specs.Places.{AreBelow, Has}
use Rattle.rela_branches.specs.Walks.{IsBefore}
use Rattle.rela_branches.proofs.walk.Walk.step.Given as goal

abbrev pub invariant-loop-place : goal.invariant-loop-place
invariant-loop-place l = record {
  below : AreBelow (length l.self.word.now + 1) l.to.items;
  has : (j : ℕ) → (Has l.to.items j ⊎ ((i : ℕ) × Has (drop l.place-index l.from) i × IsBefore l.self.classes.now (path_symbols l.self.locations) l.self.word.now l.letter i × (j ≡ i + 1)))
      ↔ ((i : ℕ) × Has l.from i × IsBefore l.self.classes.now (path_symbols l.self.locations) l.self.word.now l.letter i × (j ≡ i + 1));
}
