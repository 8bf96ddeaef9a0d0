use Rattle.std.proofs.Common.{Some, take}
use Rattle.rela_witness.specs.Labels.{IsLeast}
use Rattle.rela_witness.specs.Numbered.{After}
use Rattle.rela_witness.proofs.Leading.{EdgeGoes}
use Rattle.rela_witness.proofs.letters.least_from.Given as goal

abbrev pub invariant-loop-edge : goal.invariant-loop-edge
invariant-loop-edge g l = IsLeast (After (λ edge k. EdgeGoes g.L.LabelSet.letters l.distances l.distance (Some k) edge) (take l.edge-index l.edge-items)) l.least
