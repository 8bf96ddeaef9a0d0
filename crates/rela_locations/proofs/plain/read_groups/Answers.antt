use Rattle.std.proofs.Common.{◌≡◌, ◌≤◌, Some, arith, length}
use Rattle.json.specs.Json.{after_end_array}
use Rattle.rela_locations.specs.Network.{Group}
use Rattle.rela_locations.proofs.PlainLaws.{all_plain_groups, next_group}
use Rattle.rela_locations.proofs.WalkLaws.{seen_entry, seen_devices, seen_interfaces}
use Rattle.rela_locations.proofs.plain.read_groups.Goals as goal

pub groups-preserved : goal.groups-preserved
groups-preserved c =
    let l = c.groups in
    let same : c.take_end_array.new.self ≡ l.reader = grind arith in
    let known : length l.reader ≤ length c.args.reader.now = l.invariant.shorter in
    record {
      read = next_group _ _ _ _ _ _ _ _ _ _ _ _ _ _ _ _ c.what_holds.ensures.one_more same c.in_ok-group.ensures.seen_groups c.in_ok-group.ensures.seen_devices c.in_ok-group.ensures.seen_interfaces
          c.in_ok-push.ensures.items l.invariant.read c.in_ok-group.ensures.group;
      shorter = grind (arith, known);
      seen_groups = seen_entry (λ (group : Group). group.name) _ _ _ _ _ _ c.in_ok-push.ensures.items l.invariant.seen_groups c.in_ok-group.ensures.seen_groups;
      seen_devices = seen_devices _ _ _ _ _ _ c.in_ok-push.ensures.items l.invariant.seen_devices c.in_ok-group.ensures.seen_devices;
      seen_interfaces = seen_interfaces _ _ _ _ _ _ c.in_ok-push.ensures.items l.invariant.seen_interfaces c.in_ok-group.ensures.seen_interfaces;
    }

pub returns-clause-groups : goal.returns-clause-groups
returns-clause-groups c =
    let closed : after_end_array c.groups.reader ≡ Some c.take_end_array.new.self = grind arith in
    all_plain_groups _ _ _ _ _ _ _ _ _ _ c.what_holds.ensures.array c.groups.invariant.read closed
