use Rattle.std.proofs.Common.{◌≡◌, Err, arith}
use Rattle.std.proofs.lemmas.Result.{err_from_is_err_and}
use Rattle.serde_json.specs.View.{view}
use Rattle.rela_locations.specs.Network.{Group}
use Rattle.rela_locations.proofs.Loops.{left_next, left_none}
use Rattle.rela_locations.proofs.WalkLaws.{groups_all, groups_next, groups_refused, seen_entry, seen_devices, seen_interfaces}
use Rattle.rela_locations.proofs.walk.read_groups.Goals as goal

pub returns-in_err-group-clause-fault : goal.returns-in_err-group-clause-fault
returns-in_err-group-clause-fault c =
    let is : c.from_residual.result ≡ Err c.in_err-group.field-0.0 = grind arith in
    let next = left_next view c.args.values.now c.loop-value.value-index c.value-item.result c.loop-value-test.true c.value-item.is in
    rw is (λ no. groups_refused _ _ _ _ _ _ _ _ _ next (c.in_err-group.ensures.fault no) c.loop-value.invariant.left)

pub returns-in_err-push-clause-fault : goal.returns-in_err-push-clause-fault
returns-in_err-push-clause-fault c =
    let made = err_from_is_err_and c.from_residual-in_err-push.result c.from_residual-in_err-push.ensures.1 in
    rw (made.1) (λ real. absurd (real made.2))

pub loop-value-preserved : goal.loop-value-preserved
loop-value-preserved c =
    let next = left_next view c.args.values.now c.loop-value.value-index c.value-item.result c.loop-value-test.true c.value-item.is in
    record {
      left = groups_next _ _ _ _ _ _ _ _ _ _ _ _ _ next c.in_ok-group.ensures.group c.in_ok-group.ensures.seen_groups c.in_ok-group.ensures.seen_devices c.in_ok-group.ensures.seen_interfaces c.in_ok-push.ensures.items c.loop-value.invariant.left;
      seen_groups = seen_entry (λ (group : Group). group.name) _ _ _ _ _ _ c.in_ok-push.ensures.items c.loop-value.invariant.seen_groups c.in_ok-group.ensures.seen_groups;
      seen_devices = seen_devices _ _ _ _ _ _ c.in_ok-push.ensures.items c.loop-value.invariant.seen_devices c.in_ok-group.ensures.seen_devices;
      seen_interfaces = seen_interfaces _ _ _ _ _ _ c.in_ok-push.ensures.items c.loop-value.invariant.seen_interfaces c.in_ok-group.ensures.seen_interfaces;
    }

pub returns-clause-groups : goal.returns-clause-groups
returns-clause-groups c = groups_all _ _ _ _ _ _ (left_none view c.args.values.now c.loop-value.value-index c.loop-value-test.false) c.loop-value.invariant.left
