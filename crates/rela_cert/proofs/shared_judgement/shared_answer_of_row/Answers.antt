use Rattle.std.proofs.Common.{get_or, length, arith}
use Rattle.std.proofs.lemmas.Option.{slice_get-get_or}
use Rattle.rela_build.specs.PathSets.{Paths}
use Rattle.rela_translate.specs.Checked.{Checked}
use Rattle.rela_translate.specs.Verdict.{Meets}
use Rattle.rela_cert.specs.Inputs.{subject_of}
use Rattle.rela_cert.specs.Sharing.{IsMetBy}
use Rattle.rela_cert.proofs.Listings.{row_there}
use Rattle.rela_cert.proofs.MadeRows.{at_row}
use Rattle.rela_cert.proofs.SharedRows.{from_other, known_met, known_more, listed_below, other_below, to_other, where_none}
use Rattle.rela_cert.proofs.shared_judgement.shared_answer_of_row.Goals as goal

pub index-other-requires : goal.index-other-requires
index-other-requires c =
    let below = listed_below (subject_of c.args.inputs.now) c.args.planning.now.alike.items c.requires.planned.alike c.flow_and_check-flow.result.0 c.flow_and_check-flow.result.1
    c.flow_and_check-flow.ensures.flow c.flow_and_check-flow.ensures.check in
    omega (arith, below)

pub offset_bounds-inputs-other : goal.offset_bounds-inputs-other
offset_bounds-inputs-other c =
    let below = other_below (subject_of c.args.inputs.now) c.args.planning.now.alike.items c.requires.planned.alike c.flow_and_check-flow.result.0 c.flow_and_check-flow.result.1
    c.index-other.result.now c.flow_and_check-flow.ensures.flow c.flow_and_check-flow.ensures.check c.index-other.ensures in
    omega (arith, below)

pub bounds-inputs-other : goal.bounds-inputs-other
bounds-inputs-other c =
    other_below (subject_of c.args.inputs.now) c.args.planning.now.alike.items c.requires.planned.alike c.flow_and_check-flow.result.0 c.flow_and_check-flow.result.1
    c.index-other.result.now c.flow_and_check-flow.ensures.flow c.flow_and_check-flow.ensures.check c.index-other.ensures

pub is_known-requires-clause-within : goal.is_known-requires-clause-within
is_known-requires-clause-within c key row has = (c.requires.known key.0 key.1 row has).0

pub returns-then-is_known-clause-met : goal.returns-then-is_known-clause-met
returns-then-is_known-clause-met c row at =
    let s = subject_of c.args.inputs.now in
    let alike = c.args.planning.now.alike.items in
    let flow = c.flow_and_check-flow.result.0 in
    let number = c.flow_and_check-flow.result.1 in
    let other = c.index-other.result.now in
    let pair = get_or s.pairs flow c.index-inputs-flow.result in
    let another = get_or s.pairs other c.index-inputs-other.result in
    let check = get_or s.checks number c.index-inputs-check.result in
    let below = other_below s alike c.requires.planned.alike flow number other c.flow_and_check-flow.ensures.flow c.flow_and_check-flow.ensures.check c.index-other.ensures in
    let of_flow = slice_get-get_or s.pairs flow c.index-inputs-flow.result c.flow_and_check-flow.ensures.flow in
    let of_other = slice_get-get_or s.pairs other c.index-inputs-other.result below in
    let of_check = slice_get-get_or s.checks number c.index-inputs-check.result c.flow_and_check-flow.ensures.check in
    let met = from_other s alike c.requires.planned.alike flow number other check of_check c.flow_and_check-flow.ensures.flow c.index-other.ensures pair another of_flow of_other
    (IsMetBy (length s.names)) c.rows_carry_over.ensures.met
    (known_met s (length c.args.certificate.now) c.args.known.now other number _ c.requires.known (c.is_known.ensures.0 c.if-is_known.true)) in (
      pair,
      check,
      record {
        flow = flow;
        number = number;
        planned_as = c.flow_and_check-flow.ensures.planned row at;
        of_flow = of_flow;
        of_check = of_check;
      },
      met,
    )

pub returns-in_ok-insert-clause-known : goal.returns-in_ok-insert-clause-known
returns-in_ok-insert-clause-known c =
    let s = subject_of c.args.inputs.now in
    let planned = c.args.planning.now.rows.items in
    let alike = c.args.planning.now.alike.items in
    let flow = c.flow_and_check-flow.result.0 in
    let number = c.flow_and_check-flow.result.1 in
    let other = c.index-other.result.now in
    let pair = get_or s.pairs flow c.index-inputs-flow.result in
    let another = get_or s.pairs other c.index-inputs-other.result in
    let check = get_or s.checks number c.index-inputs-check-then-is_none.result in
    let below = other_below s alike c.requires.planned.alike flow number other c.flow_and_check-flow.ensures.flow c.flow_and_check-flow.ensures.check c.index-other.ensures in
    let of_flow = slice_get-get_or s.pairs flow c.index-inputs-flow.result c.flow_and_check-flow.ensures.flow in
    let of_other = slice_get-get_or s.pairs other c.index-inputs-other.result below in
    let of_check = slice_get-get_or s.checks number c.index-inputs-check-then-is_none.result c.flow_and_check-flow.ensures.check in
    let found = row_there c.args.certificate.now c.args.number c.requires.number in
    let met = where_none c.in_ok-answer.answer c.is_none.result c.is_none.ensures c.if-is_none.true c.in_ok-answer.ensures.met found.0 found.1 in
    let here = at_row s planned found.0.place (λ (k : Checked) (paths : Paths). Meets k (length s.names) paths.pre paths.post) pair check
    (record {
      flow = flow;
      number = number;
      planned_as = c.flow_and_check-flow.ensures.planned found.0 found.1;
      of_flow = of_flow;
      of_check = of_check;
    }) met in
    known_more s (length c.args.certificate.now) c.args.known.now c.insert.new.self other number c.args.number c.in_ok-insert.ensures.updates.0 c.requires.known c.requires.number
    (to_other s alike c.requires.planned.alike flow number other check of_check c.flow_and_check-flow.ensures.flow c.index-other.ensures pair another of_flow of_other
    (IsMetBy (length s.names)) c.rows_carry_over-then-is_none.ensures.met here)
