use Rattle.std.proofs.Common.{◌≡◌, Err, arith}
use Rattle.rela_draw.specs.Draws.{Draws}
use Rattle.rela_draw.proofs.Points.{at_locations}
use Rattle.rela_draw.proofs.drawing.draw.Goals as goal

pub returns-in_err-locations-clause-given : goal.returns-in_err-locations-clause-given
unfolding Draws
returns-in_err-locations-clause-given g c =
    let fault : c.from_residual.result ≡ Err c.in_err-locations.field-0.0 = grind arith in
    rw fault ((c.steps_chain.ensures _ _ (at_locations _ _ _ _)).stopped c.in_err-locations.field-0.0 c.in_err-locations.ensures.given)

pub returns-in_err-locations-clause-ends : goal.returns-in_err-locations-clause-ends
returns-in_err-locations-clause-ends g c =
    let fault : c.from_residual.result ≡ Err c.in_err-locations.field-0.0 = grind arith in
    rw fault (record { ok_keeps_count = tt; ok_given = tt; halts = c.in_err-locations.ensures.ends.halts })

pub returns-clause-given : goal.returns-clause-given
unfolding Draws
returns-clause-given g c =
    let next = rw (c.in_ok-locations.ensures.same_holds, c.in_ok-locations.ensures.same_steady) at c.draw_over.ensures.given in
    (c.steps_chain.ensures _ _ (at_locations _ _ _ _)).settled c.in_ok-locations.locations _ (λ other same. same) c.in_ok-locations.ensures.given next

pub returns-clause-ends : goal.returns-clause-ends
returns-clause-ends g c = rw c.in_ok-locations.ensures.ends.ok_keeps_count at c.draw_over.ensures.ends

pub returns-clause-steady_is_no_fault : goal.returns-clause-steady_is_no_fault
returns-clause-steady_is_no_fault g c = λ steady tables other locations.
    let none = rw (c.in_ok-locations.ensures.same_holds, c.in_ok-locations.ensures.same_steady) at c.draw_over.ensures.steady_is_no_fault in
    none steady tables other
