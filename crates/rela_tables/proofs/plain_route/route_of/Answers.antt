use Rattle.rela_tables.proofs.Loops.{told_new}
use Rattle.rela_tables.proofs.WalkLaws.{route_read, route_whole}
use Rattle.rela_tables.proofs.plain_route.route_of.Goals as goal

pub returns-clause-route : goal.returns-clause-route
returns-clause-route c = route_read _ _ _ _ _ _ c.in_ok-prefix.ensures (route_whole _ _ _ _ _ _ (told_new _ _ c.in_ok-is_new.ensures.added c.if-not-is_new.false) c.in_ok-hops.ensures.hops)
