use Rattle.std.proofs.Common.{map, take}
use Rattle.rela_letter_image.specs.Growth.{Grows}
use Rattle.rela_letter_image.specs.LetterMoves.{set_move}
use Rattle.rela_letter_image.specs.Steps.{read_steps}
use Rattle.rela_letter_image.proofs.reads.add_by_sets.Given as goal

abbrev pub invariant-loop-step : goal.invariant-loop-step
invariant-loop-step l = Grows (read_steps l.coarse l.edge (map set_move (take l.step-index l.moves))) l.fn.growing l.growing
