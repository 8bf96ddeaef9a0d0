use Rattle.std.proofs.Common.{◌≡◌, ◌∙◌, Ok, Err, arith}
use Rattle.std.specs.Result.{IfErr}
use Rattle.rela_inputs.specs.Answer.{answer_by}
use Rattle.rela_inputs.specs.Given.{seen}
use Rattle.rela_inputs.specs.Reading.{HaltsInside}
use Rattle.rela_inputs.specs.Specified.{specified_by}
use Rattle.rela_zone.specs.Zones.{Zones}
use Rattle.rela_zone.proofs.Points.{at_locations, at_spec}
use Rattle.rela_zone.proofs.zoning.show_zone.Goals as goal

pub returns-in_err-locations-clause-given : goal.returns-in_err-locations-clause-given
unfolding Zones
returns-in_err-locations-clause-given g c =
    let fault : c.from_residual.result ≡ Err c.in_err-locations.field-0.0 = grind arith in
    rw fault ((c.steps_chain.ensures _ _ (at_locations _ _ _ _ _)).stopped c.in_err-locations.field-0.0 c.in_err-locations.ensures.given)

pub returns-in_err-locations-clause-ends : goal.returns-in_err-locations-clause-ends
returns-in_err-locations-clause-ends g c =
    let fault : c.from_residual.result ≡ Err c.in_err-locations.field-0.0 = grind arith in
    rw fault (record { ok_keeps_count = tt; ok_given = tt; halts = c.in_err-locations.ensures.ends.halts })

pub returns-in_err-asked-clause-given : goal.returns-in_err-asked-clause-given
unfolding Zones
returns-in_err-asked-clause-given g c =
    let fault : c.from_residual-in_err-asked.result ≡ Err c.in_err-asked.field-0.0 = grind arith in
    let asked = rw (c.in_ok-locations.ensures.same_holds, c.in_ok-locations.ensures.same_steady) at c.in_err-asked.ensures.given in
    rw fault ((c.steps_chain.ensures _ _ (at_locations _ _ _ _ _)).settled c.in_ok-locations.locations _ (λ other same. same) c.in_ok-locations.ensures.given
    ((c.steps_chain.ensures _ _ (at_spec _ _ _ _ _)).stopped c.in_err-asked.field-0.0 asked))

pub returns-in_err-asked-clause-ends : goal.returns-in_err-asked-clause-ends
returns-in_err-asked-clause-ends g c =
    let fault : c.from_residual-in_err-asked.result ≡ Err c.in_err-asked.field-0.0 = grind arith in
    let halts = rw c.in_ok-locations.ensures.ends.ok_keeps_count at c.in_err-asked.ensures.ends.halts in
    rw fault (record { ok_keeps_count = tt; ok_given = tt; halts = halts })

pub returns-clause-given : goal.returns-clause-given
unfolding Zones
returns-clause-given g c =
    let asked = rw (c.in_ok-locations.ensures.same_holds, c.in_ok-locations.ensures.same_steady) at c.in_ok-asked.ensures.given in
    (c.steps_chain.ensures _ _ (at_locations _ _ _ _ _)).settled c.in_ok-locations.locations _ (λ other same. same) c.in_ok-locations.ensures.given
    ((c.steps_chain.ensures _ _ (at_spec _ _ _ _ _)).settled (specified_by c.in_ok-asked.asked) _ (λ other same. c.same_checks_are_equal.ensures.specified _ other same) asked
    ((c.steps_chain.ensures _ _ (at_spec (g.F.Files.holds c.args.files.now) c.args.spec.now _ _ _)).next_read (specified_by c.in_ok-asked.asked) _ c.zone_asked_for.ensures.zone))

pub returns-clause-ends : goal.returns-clause-ends
returns-clause-ends g c =
    let halts : IfErr c.zone_asked_for.result HaltsInside =
    (elim c.zone_asked_for.result as (λ r. IfErr (seen answer_by r) HaltsInside → IfErr r HaltsInside) [ Ok answer ↦ λ h. h | Err halt ↦ λ h. h ])
    c.zone_asked_for.ensures.zone.halts in
    c.calls_inside_end.ensures.ends _ _ _ _ (c.in_ok-asked.ensures.ends.ok_keeps_count ∙ c.in_ok-locations.ensures.ends.ok_keeps_count) c.in_ok-asked.ensures.ends.ok_given halts

pub returns-clause-steady_is_no_fault : goal.returns-clause-steady_is_no_fault
returns-clause-steady_is_no_fault g c = λ steady locations spec.
    let halts : IfErr c.zone_asked_for.result HaltsInside =
    (elim c.zone_asked_for.result as (λ r. IfErr (seen answer_by r) HaltsInside → IfErr r HaltsInside) [ Ok answer ↦ λ h. h | Err halt ↦ λ h. h ])
    c.zone_asked_for.ensures.zone.halts in
    c.calls_inside_end.ensures.no_fault _ halts
