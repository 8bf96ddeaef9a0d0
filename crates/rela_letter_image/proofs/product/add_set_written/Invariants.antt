use Rattle.std.proofs.Common.{◌≡◌, Some}
use Rattle.std.specs.List.{slice_get}
use Rattle.rela_letter_image.specs.Coarse.{in_coarse}
use Rattle.rela_letter_image.specs.Growth.{Grows}
use Rattle.rela_letter_image.proofs.GrownSteps.{edges_below}
use Rattle.rela_letter_image.proofs.product.add_set_written.Given as goal

abbrev pub invariant-loop-letter : goal.invariant-loop-letter
invariant-loop-letter l = record {
  at : slice_get l.growing.pairs l.number ≡ Some l.fn.to;
  grows : Grows (edges_below (in_coarse l.coarse l.set) l.fn.to l.letter) l.fn.growing l.growing;
}
