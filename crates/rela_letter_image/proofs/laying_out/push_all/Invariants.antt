use Rattle.std.proofs.Common.{map, take}
use Rattle.std.specs.List.{flat_map}
use Rattle.rela_trans.specs.Stored.{move_of}
use Rattle.rela_letter_image.specs.Branches.{ends_of, passed_on}
use Rattle.rela_letter_image.specs.LetterMoves.{GainsAll}
use Rattle.rela_letter_image.proofs.laying_out.push_all.Given as goal

abbrev pub invariant-loop-step : goal.invariant-loop-step
invariant-loop-step g l = GainsAll l.letters (flat_map (passed_on (ends_of l.kept)) (map (move_of g.M.LabelSet.letters) (take l.step-index l.moves))) l.fn.lists l.lists
