use Rattle.std.proofs.Common.{◌≡◌, Bool, List, length, map, take}
use Rattle.rela_nfa.specs.Stored.{move_of}
use Rattle.rela_closed.specs.Splitting.{AreSorted, IsMore}
use Rattle.rela_closed.proofs.labels.Labels.put_all.Given as goal

abbrev pub invariant-loop-edge : goal.invariant-loop-edge
invariant-loop-edge g l = record {
  size : length l.self.alone ≡ length l.fn.self.alone;
  more : (over : List Bool) → IsMore over l.fn.self l.self;
  sorted : (over : List Bool) → AreSorted over l.self (map (move_of g.L.LabelSet.letters) (take l.edge-index l.edges));
}
