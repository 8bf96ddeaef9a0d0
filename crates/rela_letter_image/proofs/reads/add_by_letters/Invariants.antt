use Rattle.std.proofs.Common.{take}
use Rattle.rela_letter_image.specs.Growth.{Grows}
use Rattle.rela_letter_image.specs.Steps.{letter_steps}
use Rattle.rela_letter_image.proofs.reads.add_by_letters.Given as goal

abbrev pub invariant-loop-step : goal.invariant-loop-step
invariant-loop-step l = Grows (letter_steps l.coarse l.edge (take l.step-index l.moves)) l.fn.growing l.growing
