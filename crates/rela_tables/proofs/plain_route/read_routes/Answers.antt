use Rattle.std.proofs.Common.{◌≡◌, ◌≤◌, Some, arith, length}
use Rattle.json.specs.Json.{after_end_array}
use Rattle.rela_tables.specs.Located.{IsRouteIn}
use Rattle.rela_tables.proofs.Kept.{All-more, keys_more}
use Rattle.rela_tables.proofs.PlainLaws.{all_plain_routes, next_route}
use Rattle.rela_tables.proofs.plain_route.read_routes.Goals as goal

pub routes-preserved : goal.routes-preserved
routes-preserved c =
    let l = c.routes in
    let same : c.take_end_array.new.self ≡ l.reader = grind arith in
    let known : length l.reader ≤ length c.args.reader.now = l.invariant.shorter in
    record {
      read = next_route _ _ _ _ _ _ _ _ _ _ _ same l.invariant.keys c.in_ok-push.ensures.items l.invariant.read c.in_ok-route.ensures.route;
      shorter = grind (arith, known);
      row = omega (arith, l.invariant.row, c.in_ok-push.ensures.len);
      few = omega (arith, c.in_ok-push.ensures.len);
      keys = keys_more _ _ _ _ _ l.invariant.keys c.in_ok-route.ensures.seen c.in_ok-push.ensures.items;
      unique = c.in_ok-route.ensures.unique;
      located = All-more (IsRouteIn c.args.locations.now) _ _ _ c.in_ok-push.ensures.items l.invariant.located c.in_ok-route.ensures.located;
    }

pub returns-clause-routes : goal.returns-clause-routes
returns-clause-routes c =
    let closed : after_end_array c.routes.reader ≡ Some c.take_end_array.new.self = grind arith in
    all_plain_routes _ _ _ _ _ _ _ c.what_holds.ensures.array c.routes.invariant.read closed
