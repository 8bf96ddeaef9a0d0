use Rattle.std.proofs.Common.{take}
use Rattle.std.specs.List.{All}
use Rattle.rela_minimise.specs.Refining.{HasSettled, Settles}
use Rattle.rela_minimise.specs.Stored.{lists_of, stage_of}
use Rattle.rela_minimise.proofs.refinement.Refinement.settle_all.Given as goal

abbrev pub invariant-loop-q : goal.invariant-loop-q
invariant-loop-q g l = record {
  settles : Settles l.dfa (lists_of l.columns) (stage_of l.initial.self) (stage_of l.self);
  settled : All (HasSettled (stage_of l.self)) (take l.q-index l.waiting);
}
