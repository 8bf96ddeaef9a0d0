use Rattle.std.proofs.Common.{◌≡◌}
use Rattle.rela_closed.specs.Listing.{AreFollowed}
use Rattle.rela_closed.proofs.closedness.is_closed.Given as goal

abbrev pub invariant-loop-number : goal.invariant-loop-number
invariant-loop-number g l = record {
  same : l.reader ≡ l.fn.reader;
  kept : l.table ≡ l.fn.table;
  followed : AreFollowed (g.L.LabelSet.letters l.over) l.fn.reader l.fn.table l.number;
}
