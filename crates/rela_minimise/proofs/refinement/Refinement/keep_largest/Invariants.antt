use Rattle.std.proofs.Common.{◌≡◌, ◌+◌, length}
use Rattle.rela_minimise.specs.Refining.{IsHeld, KeepsAfter}
use Rattle.rela_minimise.specs.Stored.{stage_of}
use Rattle.rela_minimise.proofs.refinement.Refinement.keep_largest.Given as goal

abbrev pub invariant-loop-j : goal.invariant-loop-j
invariant-loop-j l = record {
  held : IsHeld (length l.self.classes.items) (stage_of l.self);
  count : length l.self.members.items ≡ l.first + length l.origins;
  keeps : KeepsAfter l.first l.origins (stage_of l.initial.self) (stage_of l.self);
}
