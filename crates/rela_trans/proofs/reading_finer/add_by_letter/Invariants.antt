use Rattle.std.proofs.Common.{◌≡◌, ◌++◌, map, take}
use Rattle.rela_trans.specs.Reached.{letter_pairs}
use Rattle.rela_trans.specs.Stored.{move_of}
use Rattle.rela_trans.proofs.reading_finer.add_by_letter.Given as goal

abbrev pub invariant-loop-step : goal.invariant-loop-step
invariant-loop-step g l = l.followers.items ≡ l.fn.followers.items ++ letter_pairs l.letter l.left (map (move_of g.L.LabelSet.letters) (take l.step-index l.moves))
