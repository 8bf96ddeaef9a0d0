use Rattle.std.proofs.Common.{◌≡◌, ℕ, ◌<◌, ◌↔◌, true}
use Rattle.std.specs.List.{All, Contains}
use Rattle.rela_labels.specs.Letters.{has}
use Rattle.rela_complement.proofs.members.listed.Given as goal

-- the letters so far
abbrev pub invariant-loop-letter : goal.invariant-loop-letter
invariant-loop-letter l = record {
  below : All (λ k. k < l.letter) l.members.items;
  each : (k : ℕ) → Contains l.members.items k ↔ ((k < l.letter) × (has l.set k ≡ true));
}
