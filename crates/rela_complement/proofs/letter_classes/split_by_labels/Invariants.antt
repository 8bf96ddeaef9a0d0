use Rattle.std.proofs.Common.{take}
use Rattle.std.specs.List.{All}
use Rattle.rela_nfa.specs.Relabelling.{Refines}
use Rattle.rela_complement.specs.Merging.{HaveUnions}
use Rattle.rela_complement.proofs.letter_classes.split_by_labels.Given as goal

-- by the labels of the states so far
abbrev pub invariant-loop-q : goal.invariant-loop-q
invariant-loop-q l = record {
  refines : Refines l.splitter l.fn.splitter;
  unions : All (HaveUnions l.splitter) (take l.q l.part.edges);
}
