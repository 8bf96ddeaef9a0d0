use Rattle.std.proofs.Common.{map, take}
use Rattle.rela_nfa.specs.Relabelling.{Refines}
use Rattle.rela_nfa.specs.Stored.{move_of}
use Rattle.rela_complement.specs.Merging.{HaveUnions}
use Rattle.rela_complement.proofs.letter_classes.split_by_edges.Given as goal

-- by the edges so far
abbrev pub invariant-loop-edge : goal.invariant-loop-edge
invariant-loop-edge l = record {
  refines : Refines l.splitter l.fn.splitter;
  unions : HaveUnions l.splitter (map (move_of (λ set. set)) (take l.edge-index l.edges));
}
