use Rattle.std.proofs.Common.{◌≡◌, ◌≤◌, Some, arith, length}
use Rattle.json.specs.Json.{after_end_array}
use Rattle.rela_locations.specs.Network.{Device}
use Rattle.rela_locations.proofs.PlainLaws.{all_plain_devices, next_device}
use Rattle.rela_locations.proofs.WalkLaws.{seen_entry, seen_inside}
use Rattle.rela_locations.proofs.plain_device.read_devices.Goals as goal

pub devices-preserved : goal.devices-preserved
devices-preserved c =
    let l = c.devices in
    let same : c.take_end_array.new.self ≡ l.reader = grind arith in
    let known : length l.reader ≤ length c.args.reader.now = l.invariant.shorter in
    record {
      read = next_device _ _ _ _ _ _ _ _ _ _ _ _ _ c.what_holds.ensures.one_more same c.in_ok-device.ensures.seen c.in_ok-device.ensures.seen_interfaces c.in_ok-push.ensures.items l.invariant.read c.in_ok-device.ensures.device;
      shorter = grind (arith, known);
      seen = seen_entry (λ (device : Device). device.name) _ _ _ _ _ _ c.in_ok-push.ensures.items l.invariant.seen c.in_ok-device.ensures.seen;
      seen_interfaces = seen_inside (λ (device : Device). device.interfaces) _ _ _ _ _ _ c.in_ok-push.ensures.items l.invariant.seen_interfaces c.in_ok-device.ensures.seen_interfaces;
    }

pub returns-clause-devices : goal.returns-clause-devices
returns-clause-devices c =
    let closed : after_end_array c.devices.reader ≡ Some c.take_end_array.new.self = grind arith in
    all_plain_devices _ _ _ _ _ _ _ _ c.what_holds.ensures.array c.devices.invariant.read closed
