use Rattle.std.proofs.Common.{◌≡◌, ◌≤◌, length}
use Rattle.rela_snapshot.specs.Located.{AreLocatedIn}
use Rattle.rela_snapshot.specs.Names.{AreDistinct}
use Rattle.rela_snapshot.specs.SnapshotFlows.{names_of}
use Rattle.rela_snapshot.proofs.PlainLoops.{SoFar}
use Rattle.rela_snapshot.proofs.plain.read_flows.Given as goal

abbrev pub invariant-flows : goal.invariant-flows
invariant-flows l = record {
  read : SoFar l.locations l.initial.reader l.flows.items l.reader;
  shorter : length l.reader ≤ length l.initial.reader;
  names : l.names ≡ names_of l.flows.items;
  few : length l.names ≤ 10000;
  distinct : AreDistinct l.names;
  located : AreLocatedIn l.locations l.flows.items;
}

abbrev pub decreases-flows : goal.decreases-flows
decreases-flows l = length l.reader
