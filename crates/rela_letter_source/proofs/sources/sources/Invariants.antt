use Rattle.std.proofs.Common.{◌-◌, ◌^◌, length}
use Rattle.rela_letter_source.proofs.BuiltStates.{AreBuilt}
use Rattle.rela_letter_source.proofs.sources.sources.Given as goal

abbrev pub invariant-queue : goal.invariant-queue
invariant-queue l = AreBuilt l.coarse l.word l.paths l.relation l.growing

abbrev pub decreases-queue : goal.decreases-queue
decreases-queue l = 2 ^ 31 - length l.growing.parts.finals
