use Rattle.std.proofs.Common.{◌≤◌, take, length}
use Rattle.rela_pairs.specs.Finding.{GrowsBy, AreNumbers}
use Rattle.rela_pairs.specs.Keeping.{pairs_of, Takes}
use Rattle.rela_pairs.specs.declared.pair.Pair.{Pair}
use Rattle.rela_pairs.proofs.found.Found.number_all.Given as goal

abbrev pub invariant-loop-pair : goal.invariant-loop-pair
invariant-loop-pair l = record {
  numbers : AreNumbers (pairs_of l.self) (take l.pair-index l.pairs) l.numbers.items;
  grows : GrowsBy l.pairs (pairs_of l.fn.self) (pairs_of l.self);
  few : length (pairs_of l.self) ≤ l.limit;
  takes : (x : Pair) → Takes l.fn.self x → Takes l.self x;
}
