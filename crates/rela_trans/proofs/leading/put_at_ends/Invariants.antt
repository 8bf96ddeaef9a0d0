use Rattle.std.proofs.Common.{◌≡◌, length, map, take}
use Rattle.rela_trans.specs.Coaccessible.{ends_of}
use Rattle.rela_trans.specs.Stored.{lists_of, move_of}
use Rattle.rela_trans.proofs.Coaccessible.{IsPutAt}
use Rattle.rela_trans.proofs.leading.put_at_ends.Given as goal

abbrev pub invariant-loop-edge : goal.invariant-loop-edge
invariant-loop-edge g l = record {
  each : length l.lists.items ≡ length l.initial.lists.items;
  put : IsPutAt (lists_of l.initial.lists.items) (lists_of l.lists.items) l.p (ends_of (map (move_of g.L.LabelSet.letters) (take l.edge-index l.moves)));
}
