use Rattle.std.proofs.Common.{◌≡◌, Ok, Err, arith}
use Rattle.std.specs.Result.{IfErr}
use Rattle.rela_assert.specs.Asserted.{asserted_by}
use Rattle.rela_inputs.specs.Given.{seen}
use Rattle.rela_inputs.specs.Inputs.{Gives}
use Rattle.rela_inputs.specs.Reading.{HaltsInside}
use Rattle.rela_assert.proofs.Points.{at_text}
use Rattle.rela_assert.proofs.loading.load_claims.Goals as goal

pub returns-in_err-text-clause-given : goal.returns-in_err-text-clause-given
unfolding Gives
returns-in_err-text-clause-given g c =
    let fault : c.from_residual.result ≡ Err c.in_err-text.field-0.0 = grind arith in
    rw fault ((c.steps_chain.ensures _ _ (at_text _ _ _)).stopped c.in_err-text.field-0.0 c.in_err-text.ensures.given)

pub returns-in_err-text-clause-ends : goal.returns-in_err-text-clause-ends
returns-in_err-text-clause-ends g c =
    let fault : c.from_residual.result ≡ Err c.in_err-text.field-0.0 = grind arith in
    rw fault (record { ok_keeps_count = tt; ok_given = tt; halts = c.in_err-text.ensures.ends.halts })

pub returns-clause-given : goal.returns-clause-given
unfolding Gives
returns-clause-given g c =
    let read = rw c.as_slice.ensures.value at c.read_claims.ensures.asserted in
    (c.steps_chain.ensures _ _ (at_text _ _ _)).settled c.in_ok-text.text.items _ (λ other same. same) c.in_ok-text.ensures.given
    ((c.steps_chain.ensures _ _ (at_text (g.F.Files.holds c.args.files.now) c.args.name.now _)).next_read c.in_ok-text.text.items _ read)

pub returns-clause-ends : goal.returns-clause-ends
returns-clause-ends g c =
    let halts : IfErr c.read_claims.result HaltsInside =
    (elim c.read_claims.result as (λ r. IfErr (seen asserted_by r) HaltsInside → IfErr r HaltsInside) [ Ok asserted ↦ λ h. h | Err halt ↦ λ h. h ])
    c.read_claims.ensures.asserted.halts in
    c.calls_inside_end.ensures.ends _ _ _ _ c.in_ok-text.ensures.ends.ok_keeps_count c.in_ok-text.ensures.ends.ok_given halts

pub returns-clause-steady_is_no_fault : goal.returns-clause-steady_is_no_fault
returns-clause-steady_is_no_fault g c = λ steady held.
    let halts : IfErr c.read_claims.result HaltsInside =
    (elim c.read_claims.result as (λ r. IfErr (seen asserted_by r) HaltsInside → IfErr r HaltsInside) [ Ok asserted ↦ λ h. h | Err halt ↦ λ h. h ])
    c.read_claims.ensures.asserted.halts in
    c.calls_inside_end.ensures.no_fault _ halts
