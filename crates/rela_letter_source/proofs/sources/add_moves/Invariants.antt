use Rattle.std.proofs.Common.{map, take}
use Rattle.rela_letter_image.specs.LetterMoves.{alone_move}
use Rattle.rela_letter_source.specs.Growth.{Grows}
use Rattle.rela_letter_source.specs.Steps.{alone_steps}
use Rattle.rela_letter_source.proofs.sources.add_moves.Given as goal

abbrev pub invariant-loop-step : goal.invariant-loop-step
invariant-loop-step l = Grows (alone_steps l.next l.x (map alone_move (take l.step-index l.moves))) l.fn.growing l.growing
