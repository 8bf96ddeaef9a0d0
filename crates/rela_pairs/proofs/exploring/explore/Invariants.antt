use Rattle.std.proofs.Common.{◌-◌, length}
use Rattle.rela_pairs.specs.Keeping.{pairs_of, Takes}
use Rattle.rela_pairs.specs.declared.pair.Pair.{Pair}
use Rattle.rela_pairs.proofs.Steps.{Exploring}
use Rattle.rela_pairs.proofs.exploring.explore.Given as goal

abbrev pub invariant-queue : goal.invariant-queue
invariant-queue g l = record {
  so_far : Exploring (g.S.Successors.next l.successors) l.fn.start l.limit (g.S.Successors.is_pair l.successors) (pairs_of l.found) l.targets;
  takes : (x : Pair) → g.S.Successors.is_pair l.successors x → Takes l.found x;
}

abbrev pub decreases-queue : goal.decreases-queue
decreases-queue g l = l.limit - length l.targets
