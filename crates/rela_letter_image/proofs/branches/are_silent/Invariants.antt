use Rattle.std.proofs.Common.{map, take}
use Rattle.std.specs.List.{All}
use Rattle.rela_trans.specs.Stored.{move_of}
use Rattle.rela_letter_image.specs.Branches.{IsSilent}
use Rattle.rela_letter_image.proofs.branches.are_silent.Given as goal

abbrev pub invariant-loop-step : goal.invariant-loop-step
invariant-loop-step g l = All IsSilent (map (move_of g.M.LabelSet.letters) (take l.step-index l.moves))
