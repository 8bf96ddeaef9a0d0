use Rattle.std.proofs.Common.{◌≡◌, ℕ, ◌<◌, take, length}
use Rattle.rela_labels.specs.Splitting.{IsMoved}
use Rattle.rela_labels.proofs.splitter.move_members.Given as goal

abbrev pub invariant-loop-s : goal.invariant-loop-s
invariant-loop-s l = record {
  len : length l.keys ≡ length l.initial.keys;
  each : (s : ℕ) → s < length l.initial.keys → IsMoved (take l.s-index l.members) l.moved l.initial.keys l.keys s;
}
