use Rattle.std.proofs.Common.{codes}
use Rattle.rela_tables.proofs.PlainLaws.{found_is, hops_missing, hops_taken, missing_is}
use Rattle.rela_tables.proofs.plain_route.hops_in.Goals as goal

pub returns-in_ok-hops-in-Some-clause-hops : goal.returns-in_ok-hops-in-Some-clause-hops
returns-in_ok-hops-in-Some-clause-hops c =
    rw c.from_vec.ensures (hops_taken _ _ _ _ _ (found_is (codes "hops") c.args.members.now _ _ _ c.find.ensures.found c.in-Some.is c.in_ok-names-in-Some.ensures.texts) c.in_ok-hops-in-Some.ensures.hops)

pub returns-in-None-clause-hops : goal.returns-in-None-clause-hops
returns-in-None-clause-hops c = hops_missing _ _ _ (missing_is (codes "hops") c.args.members.now _ c.find.ensures.found c.in-None.is)
