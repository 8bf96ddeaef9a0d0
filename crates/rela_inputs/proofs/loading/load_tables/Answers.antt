use Rattle.std.proofs.Common.{◌≡◌, Err, arith}
use Rattle.rela_inputs.proofs.GivenLaws.{text_given, text_stopped, ends_inside, ends_stopped, no_read_fault}
use Rattle.rela_inputs.proofs.loading.load_tables.Goals as goal

pub returns-in_err-text-clause-given : goal.returns-in_err-text-clause-given
returns-in_err-text-clause-given g c =
    let fault : c.from_residual.result ≡ Err c.in_err-text.field-0.0 = grind arith in
    rw fault (text_stopped _ _ _ _ _ c.in_err-text.field-0.0 c.in_err-text.ensures.given)

pub returns-in_err-text-clause-ends : goal.returns-in_err-text-clause-ends
returns-in_err-text-clause-ends g c =
    let fault : c.from_residual.result ≡ Err c.in_err-text.field-0.0 = grind arith in
    rw fault (ends_stopped _ _ _ c.in_err-text.field-0.0 c.in_err-text.ensures.ends)

pub returns-clause-given : goal.returns-clause-given
returns-clause-given g c =
    text_given _ _ _ _ _ c.in_ok-text.text.items _ _ c.in_ok-text.ensures.given c.as_slice.ensures.value c.read_tables.ensures.tables

pub returns-clause-ends : goal.returns-clause-ends
returns-clause-ends g c =
    ends_inside _ _ _ _ c.in_ok-text.ensures.ends.ok_keeps_count c.in_ok-text.ensures.ends.ok_given c.read_tables.ensures.tables.halts

pub returns-clause-steady_is_no_fault : goal.returns-clause-steady_is_no_fault
returns-clause-steady_is_no_fault g c = λ steady held. no_read_fault _ c.read_tables.ensures.tables.halts
