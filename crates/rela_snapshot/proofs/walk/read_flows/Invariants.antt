use Rattle.std.proofs.Common.{◌≡◌, ◌≤◌, drop, length, map}
use Rattle.serde_json.specs.View.{view}
use Rattle.rela_snapshot.specs.Located.{AreLocatedIn}
use Rattle.rela_snapshot.specs.Names.{AreDistinct}
use Rattle.rela_snapshot.specs.SnapshotFlows.{names_of}
use Rattle.rela_snapshot.proofs.FlowLaws.{AreRead}
use Rattle.rela_snapshot.proofs.walk.read_flows.Given as goal

abbrev pub invariant-loop-value : goal.invariant-loop-value
invariant-loop-value l = record {
  read : AreRead l.locations l.version (map view l.values) (map view (drop l.value-index l.values)) l.flows.items;
  names : l.names ≡ names_of l.flows.items;
  few : length l.names ≤ 10000;
  distinct : AreDistinct l.names;
  located : AreLocatedIn l.locations l.flows.items;
}
