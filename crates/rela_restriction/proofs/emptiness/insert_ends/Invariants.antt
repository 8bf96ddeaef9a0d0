use Rattle.std.proofs.Common.{◌<◌, length, map, take}
use Rattle.std.specs.List.{All}
use Rattle.rela_nfa.specs.Stored.{move_of}
use Rattle.rela_restriction.specs.Emptiness.{Finds, OpensTo}
use Rattle.rela_restriction.proofs.emptiness.insert_ends.Given as goal

abbrev pub invariant-loop-edge : goal.invariant-loop-edge
invariant-loop-edge g l = record {
  finds : Finds (OpensTo (g.L.LabelSet.letters l.over) (map (move_of g.L.LabelSet.letters) (take l.edge-index l.edges))) l.fn.found l.fn.waiting.items l.found l.waiting.items;
  below : All (λ q. q < length l.found) l.waiting.items;
}
