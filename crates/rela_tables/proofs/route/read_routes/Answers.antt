use Rattle.std.proofs.Common.{◌≡◌, Err, arith}
use Rattle.serde_json.specs.View.{view}
use Rattle.rela_tables.specs.Located.{IsRouteIn}
use Rattle.rela_tables.proofs.Kept.{All-more, keys_more}
use Rattle.rela_tables.proofs.Loops.{left_next, left_none}
use Rattle.rela_tables.proofs.WalkLaws.{route_ends, route_goes_on, all_routes}
use Rattle.rela_tables.proofs.route.read_routes.Goals as goal

pub returns-in_err-route-clause-fault : goal.returns-in_err-route-clause-fault
returns-in_err-route-clause-fault c =
    let is : c.from_residual-in_err-route.result ≡ Err c.in_err-route.field-0.0 = grind arith in
    let next = left_next view c.args.values.now c.loop-value.value-index c.value-item.result c.loop-value-test.true c.value-item.is in
    rw is (λ no. route_ends _ _ _ _ _ _ _ _ _ _ next c.loop-value.invariant.keys (c.in_err-route.ensures.fault no) c.loop-value.invariant.read)

pub loop-value-preserved : goal.loop-value-preserved
loop-value-preserved c =
    let next = left_next view c.args.values.now c.loop-value.value-index c.value-item.result c.loop-value-test.true c.value-item.is in
    record {
      read = route_goes_on _ _ _ _ _ _ _ _ _ _ _ next c.loop-value.invariant.keys c.in_ok-push.ensures.items c.in_ok-route.ensures.route c.loop-value.invariant.read;
      row = omega (arith, c.loop-value.invariant.row);
      len = omega (arith, c.loop-value.invariant.len, c.in_ok-push.ensures.len);
      keys = keys_more _ _ _ _ _ c.loop-value.invariant.keys c.in_ok-route.ensures.seen c.in_ok-push.ensures.items;
      unique = c.in_ok-route.ensures.unique;
      located = All-more (IsRouteIn c.args.locations.now) _ _ _ c.in_ok-push.ensures.items c.loop-value.invariant.located c.in_ok-route.ensures.located;
    }

pub returns-clause-routes : goal.returns-clause-routes
returns-clause-routes c = all_routes _ _ _ _ _ _ (left_none view c.args.values.now c.loop-value.value-index c.loop-value-test.false) c.loop-value.invariant.read
