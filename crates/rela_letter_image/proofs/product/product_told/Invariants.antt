use Rattle.std.proofs.Common.{◌≡◌, ◌-◌, ◌^◌, length}
use Rattle.rela_letter_image.proofs.BuiltStates.{AreBuilt}
use Rattle.rela_letter_image.proofs.product.product_told.Given as goal

abbrev pub invariant-queue : goal.invariant-queue
invariant-queue l = record {
  built : AreBuilt l.coarse l.paths l.relation l.growing;
  told : l.growing.told ≡ record { needs = l.needs; ahead = l.ahead };
}

abbrev pub decreases-queue : goal.decreases-queue
decreases-queue l = 2 ^ 31 - length l.growing.parts.finals
