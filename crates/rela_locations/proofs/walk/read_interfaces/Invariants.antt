use Rattle.std.proofs.Common.{◌≡◌, drop, map}
use Rattle.serde_json.specs.View.{view}
use Rattle.rela_locations.specs.Names.{with_names}
use Rattle.rela_locations.specs.Load.{load_interfaces}
use Rattle.rela_locations.proofs.Loops.{with_front}
use Rattle.rela_locations.proofs.walk.read_interfaces.Given as goal

-- the names so far, and what comes of the entries that are left
abbrev pub invariant-loop-value : goal.invariant-loop-value
invariant-loop-value l = record {
  left : with_front l.interfaces.items (load_interfaces l.seen (map view (drop l.value-index l.values))) ≡ load_interfaces l.initial.seen (map view l.values);
  seen : l.seen ≡ with_names l.initial.seen l.interfaces.items;
}
