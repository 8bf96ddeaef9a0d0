use Rattle.std.proofs.Common.{◌≡◌, ◌++◌, map, take}
use Rattle.rela_trans.specs.Reached.{alone_pairs}
use Rattle.rela_trans.specs.Stored.{move_of}
use Rattle.rela_trans.proofs.reading_finer.add_alone.Given as goal

abbrev pub invariant-loop-step : goal.invariant-loop-step
invariant-loop-step g l = l.followers.items ≡ l.fn.followers.items ++ alone_pairs l.left (map (move_of g.L.LabelSet.letters) (take l.step-index l.moves))
