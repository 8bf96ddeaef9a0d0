use Rattle.std.proofs.Common.{◌≡◌, ◌∙◌, Ok, Err, arith}
use Rattle.std.specs.Result.{IfErr}
use Rattle.rela_inputs.specs.Answer.{answer_by}
use Rattle.rela_inputs.specs.Given.{seen}
use Rattle.rela_inputs.specs.Reading.{HaltsInside}
use Rattle.rela_draw.proofs.Points.{at_tables, at_other}
use Rattle.rela_draw.proofs.drawing.draw_over.Goals as goal

pub returns-in_err-tables-clause-given : goal.returns-in_err-tables-clause-given
returns-in_err-tables-clause-given g c =
    let fault : c.from_residual.result ≡ Err c.in_err-tables.field-0.0 = grind arith in
    rw fault ((c.steps_chain.ensures _ _ (at_tables _ _ _ _)).stopped c.in_err-tables.field-0.0 c.in_err-tables.ensures.given)

pub returns-in_err-tables-clause-ends : goal.returns-in_err-tables-clause-ends
returns-in_err-tables-clause-ends g c =
    let fault : c.from_residual.result ≡ Err c.in_err-tables.field-0.0 = grind arith in
    rw fault (record { ok_keeps_count = tt; ok_given = tt; halts = c.in_err-tables.ensures.ends.halts })

pub returns-in_err-other-clause-given : goal.returns-in_err-other-clause-given
returns-in_err-other-clause-given g c =
    let fault : c.from_residual-in_err-other.result ≡ Err c.in_err-other.field-0.0 = grind arith in
    let two = rw (c.in_ok-tables.ensures.same_holds, c.in_ok-tables.ensures.same_steady) at c.in_err-other.ensures.given in
    rw fault ((c.steps_chain.ensures _ _ (at_tables _ _ _ _)).settled c.in_ok-tables.tables _ (λ other same. same) c.in_ok-tables.ensures.given
    ((c.steps_chain.ensures _ _ (at_other _ _ _ c.in_ok-tables.tables)).stopped c.in_err-other.field-0.0 two))

pub returns-in_err-other-clause-ends : goal.returns-in_err-other-clause-ends
returns-in_err-other-clause-ends g c =
    let fault : c.from_residual-in_err-other.result ≡ Err c.in_err-other.field-0.0 = grind arith in
    let halts = rw c.in_ok-tables.ensures.ends.ok_keeps_count at c.in_err-other.ensures.ends.halts in
    rw fault (record { ok_keeps_count = tt; ok_given = tt; halts = halts })

pub returns-clause-given : goal.returns-clause-given
returns-clause-given g c =
    let two = rw (c.in_ok-tables.ensures.same_holds, c.in_ok-tables.ensures.same_steady) at c.in_ok-other.ensures.given in
    (c.steps_chain.ensures _ _ (at_tables _ _ _ _)).settled c.in_ok-tables.tables _ (λ other same. same) c.in_ok-tables.ensures.given
    ((c.steps_chain.ensures _ _ (at_other _ _ _ c.in_ok-tables.tables)).settled c.in_ok-other.other _ (λ other same. same) two
    ((c.steps_chain.ensures _ _ (at_other (g.F.Files.holds c.args.files.now) c.args.other.now _ c.in_ok-tables.tables)).next_read c.in_ok-other.other _ c.draw_tables.ensures.drawing))

pub returns-clause-ends : goal.returns-clause-ends
returns-clause-ends g c =
    let halts : IfErr c.draw_tables.result HaltsInside =
    (elim c.draw_tables.result as (λ r. IfErr (seen answer_by r) HaltsInside → IfErr r HaltsInside) [ Ok answer ↦ λ h. h | Err halt ↦ λ h. h ])
    c.draw_tables.ensures.drawing.halts in
    c.calls_inside_end.ensures.ends _ _ _ _ (c.in_ok-other.ensures.ends.ok_keeps_count ∙ c.in_ok-tables.ensures.ends.ok_keeps_count) c.in_ok-other.ensures.ends.ok_given halts

pub returns-clause-steady_is_no_fault : goal.returns-clause-steady_is_no_fault
returns-clause-steady_is_no_fault g c = λ steady tables other.
    let halts : IfErr c.draw_tables.result HaltsInside =
    (elim c.draw_tables.result as (λ r. IfErr (seen answer_by r) HaltsInside → IfErr r HaltsInside) [ Ok answer ↦ λ h. h | Err halt ↦ λ h. h ])
    c.draw_tables.ensures.drawing.halts in
    c.calls_inside_end.ensures.no_fault _ halts
