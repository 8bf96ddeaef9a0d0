use Rattle.std.proofs.Common.{◌≡◌, length, take}
use Rattle.rela_witness.proofs.Turning.{IsTurned}
use Rattle.rela_witness.proofs.sources.add_source.Given as goal

abbrev pub invariant-loop-edge : goal.invariant-loop-edge
invariant-loop-edge g l = record {
  count : length l.links ≡ length l.fn.links;
  turned : IsTurned g.L.LabelSet.letters l.kind l.p (take l.edge-index l.edge-items) l.fn.links l.links;
}
