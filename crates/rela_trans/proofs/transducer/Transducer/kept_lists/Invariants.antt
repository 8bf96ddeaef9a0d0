use Rattle.std.proofs.Common.{◌≡◌, map}
use Rattle.std.specs.List.{range_with_len}
use Rattle.rela_trans.specs.Reached.{kept_moves}
use Rattle.rela_trans.specs.Stored.{moves_in}
use Rattle.rela_trans.proofs.transducer.Transducer.kept_lists.Given as goal

abbrev pub invariant-loop-q : goal.invariant-loop-q
invariant-loop-q g l = moves_in g.M.LabelSet.letters l.new.items ≡ map (kept_moves l.parents l.kept l.self) (range_with_len 0 l.q)
