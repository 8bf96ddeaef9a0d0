use Rattle.rela_tables.proofs.PlainLaws.{route_kept}
use Rattle.rela_tables.proofs.plain_route.read_route.Goals as goal

pub returns-clause-route : goal.returns-clause-route
returns-clause-route c = route_kept _ _ _ _ _ _ _ _ c.as_slice.ensures.value c.in_ok-members.ensures.members c.route_of.ensures.route
