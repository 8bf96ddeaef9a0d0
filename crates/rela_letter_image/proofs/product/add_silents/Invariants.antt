use Rattle.std.proofs.Common.{take}
use Rattle.rela_letter_image.specs.Growth.{Grows}
use Rattle.rela_letter_image.specs.Steps.{silent_steps}
use Rattle.rela_letter_image.proofs.product.add_silents.Given as goal

abbrev pub invariant-loop-end : goal.invariant-loop-end
invariant-loop-end l = Grows (silent_steps l.right (take l.end-index l.ends)) l.fn.growing l.growing
