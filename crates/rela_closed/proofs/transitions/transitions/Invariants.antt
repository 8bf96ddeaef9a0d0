use Rattle.std.proofs.Common.{◌≡◌, length}
use Rattle.rela_nfa.specs.Stored.{moves_in}
use Rattle.rela_closed.specs.Listing.{AreAllEdges}
use Rattle.rela_closed.proofs.transitions.transitions.Given as goal

abbrev pub invariant-loop-number : goal.invariant-loop-number
invariant-loop-number g l = record {
  same : l.reader ≡ l.fn.reader;
  kept : l.table ≡ l.fn.table;
  each : length (moves_in g.L.LabelSet.letters l.edges.items) ≡ l.number;
  edges : AreAllEdges (g.L.LabelSet.letters l.over) l.fn.reader l.fn.table l.number (moves_in g.L.LabelSet.letters l.edges.items);
}
