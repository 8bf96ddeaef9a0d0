use Rattle.std.proofs.Common.{map, take}
use Rattle.rela_trans.specs.Stored.{move_of}
use Rattle.rela_letter_image.specs.Branches.{led_to}
use Rattle.rela_letter_image.specs.LetterMoves.{GainsAll}
use Rattle.rela_letter_image.proofs.laying_out.push_each.Given as goal

abbrev pub invariant-loop-to : goal.invariant-loop-to
invariant-loop-to g l = GainsAll l.letters (map (led_to (move_of g.M.LabelSet.letters l.step)) (take l.to-index l.ends)) l.fn.lists l.lists
