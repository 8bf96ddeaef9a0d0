use Rattle.std.proofs.Common.{◌≡◌, Err, arith}
use Rattle.rela_check.proofs.BlameLaws.{locations_stopped, over}
use Rattle.rela_check.proofs.blaming.report_blamed.Goals as goal

pub returns-in_err-locations-clause-given : goal.returns-in_err-locations-clause-given
returns-in_err-locations-clause-given g c =
    let fault : c.from_residual.result ≡ Err c.in_err-locations.field-0.0 = grind arith in
    rw fault (locations_stopped _ _ (c.steps_chain.ensures _ _) _ _ _ _ _ _ c.in_err-locations.field-0.0 c.in_err-locations.ensures.given)

pub returns-in_err-locations-clause-ends : goal.returns-in_err-locations-clause-ends
returns-in_err-locations-clause-ends g c =
    let fault : c.from_residual.result ≡ Err c.in_err-locations.field-0.0 = grind arith in
    rw fault (record { ok_keeps_count = tt; ok_given = tt; halts = c.in_err-locations.ensures.ends.halts })

pub returns-clause-given : goal.returns-clause-given
returns-clause-given g c =
    let rest = rw (c.in_ok-locations.ensures.same_holds, c.in_ok-locations.ensures.same_steady) at c.blame_over.ensures.given in
    over _ _ (c.steps_chain.ensures _ _) _ _ _ _ _ _ c.in_ok-locations.locations _ c.in_ok-locations.ensures.given rest

pub returns-clause-ends : goal.returns-clause-ends
returns-clause-ends g c = rw c.in_ok-locations.ensures.ends.ok_keeps_count at c.blame_over.ensures.ends
