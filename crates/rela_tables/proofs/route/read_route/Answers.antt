use Rattle.std.proofs.Common.{◌≡◌, Err, arith}
use Rattle.rela_tables.proofs.Loops.{told_known, told_new}
use Rattle.rela_tables.proofs.WalkLaws.{route_refused, route_read, route_repeats, route_no_hops, route_whole}
use Rattle.rela_tables.proofs.route.read_route.Goals as goal

pub returns-in_err-prefix-clause-fault : goal.returns-in_err-prefix-clause-fault
returns-in_err-prefix-clause-fault c =
    let is : c.from_residual.result ≡ Err c.in_err-prefix.field-0.0 = grind arith in
    rw is (λ no. route_refused _ _ _ _ _ c.in_err-prefix.ensures)

pub returns-then-not-is_new-clause-fault : goal.returns-then-not-is_new-clause-fault
returns-then-not-is_new-clause-fault c = λ no. route_read _ _ _ _ _ _ c.in_ok-prefix.ensures (route_repeats _ _ _ _ _ (told_known _ _ c.in_ok-is_new.ensures.added c.if-not-is_new.true))

pub returns-in_err-hops-clause-fault : goal.returns-in_err-hops-clause-fault
returns-in_err-hops-clause-fault c =
    let is : c.from_residual-in_err-hops.result ≡ Err c.in_err-hops.field-0.0 = grind arith in
    rw is (λ no. route_read _ _ _ _ _ _ c.in_ok-prefix.ensures (route_no_hops _ _ _ _ _ _ (told_new _ _ c.in_ok-is_new.ensures.added c.if-not-is_new.false) (c.in_err-hops.ensures.fault no)))

pub returns-clause-route : goal.returns-clause-route
returns-clause-route c = route_read _ _ _ _ _ _ c.in_ok-prefix.ensures (route_whole _ _ _ _ _ _ (told_new _ _ c.in_ok-is_new.ensures.added c.if-not-is_new.false) c.in_ok-hops.ensures.hops)
