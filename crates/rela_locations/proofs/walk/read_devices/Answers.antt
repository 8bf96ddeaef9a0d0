use Rattle.std.proofs.Common.{◌≡◌, Err, arith}
use Rattle.std.proofs.lemmas.Result.{err_from_is_err_and}
use Rattle.serde_json.specs.View.{view}
use Rattle.rela_locations.specs.Network.{Device}
use Rattle.rela_locations.proofs.Loops.{left_next, left_none}
use Rattle.rela_locations.proofs.WalkLaws.{devices_all, devices_next, devices_refused, seen_entry, seen_inside}
use Rattle.rela_locations.proofs.walk.read_devices.Goals as goal

pub returns-in_err-device-clause-fault : goal.returns-in_err-device-clause-fault
returns-in_err-device-clause-fault c =
    let is : c.from_residual.result ≡ Err c.in_err-device.field-0.0 = grind arith in
    let next = left_next view c.args.values.now c.loop-value.value-index c.value-item.result c.loop-value-test.true c.value-item.is in
    rw is (λ no. devices_refused _ _ _ _ _ _ _ _ next (c.in_err-device.ensures.fault no) c.loop-value.invariant.left)

pub returns-in_err-push-clause-fault : goal.returns-in_err-push-clause-fault
returns-in_err-push-clause-fault c =
    let made = err_from_is_err_and c.from_residual-in_err-push.result c.from_residual-in_err-push.ensures.1 in
    rw (made.1) (λ real. absurd (real made.2))

pub loop-value-preserved : goal.loop-value-preserved
loop-value-preserved c =
    let next = left_next view c.args.values.now c.loop-value.value-index c.value-item.result c.loop-value-test.true c.value-item.is in
    record {
      left = devices_next _ _ _ _ _ _ _ _ _ _ _ next c.in_ok-device.ensures.device c.in_ok-device.ensures.seen c.in_ok-device.ensures.seen_interfaces c.in_ok-push.ensures.items c.loop-value.invariant.left;
      seen = seen_entry (λ (device : Device). device.name) _ _ _ _ _ _ c.in_ok-push.ensures.items c.loop-value.invariant.seen c.in_ok-device.ensures.seen;
      seen_interfaces = seen_inside (λ (device : Device). device.interfaces) _ _ _ _ _ _ c.in_ok-push.ensures.items c.loop-value.invariant.seen_interfaces c.in_ok-device.ensures.seen_interfaces;
    }

pub returns-clause-devices : goal.returns-clause-devices
returns-clause-devices c = devices_all _ _ _ _ _ (left_none view c.args.values.now c.loop-value.value-index c.loop-value-test.false) c.loop-value.invariant.left
