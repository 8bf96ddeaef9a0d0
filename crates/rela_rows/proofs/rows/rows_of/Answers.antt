use Rattle.std.proofs.Common.{List, length, sym, subst}
use Rattle.std.specs.List.{All, AllZip}
use Rattle.rela_flows.specs.declared.planning.PlannedRow.{PlannedRow}
use Rattle.rela_plan.specs.Within.{IsWithin}
use Rattle.rela_translate.specs.Checked.{Checked as Check}
use Rattle.rela_rows.specs.Rows.{AreRowsOf}
use Rattle.rela_rows.specs.Sharing.{IsRowBy}
use Rattle.rela_rows.proofs.Judging.{lent_judges}
use Rattle.rela_rows.proofs.Loops.{if_ok}
use Rattle.rela_rows.proofs.RowLaws.{are_rows}
use Rattle.rela_rows.proofs.rows.rows_of.Goals as goal

pub decide_all-requires-clause-planned : goal.decide_all-requires-clause-planned
decide_all-requires-clause-planned c =
    subst (λ (checks : List Check). All (IsWithin (length c.args.pairs.now) (length checks)) c.deref.result.now) (sym c.judges_by-judges.ensures.checks)
    (subst (λ (rows : List PlannedRow). All (IsWithin (length c.args.pairs.now) (length c.args.checks.now)) rows) (sym c.deref.ensures.value) c.in_ok-work.ensures.within)

pub decide_all-requires-clause-judges : goal.decide_all-requires-clause-judges
decide_all-requires-clause-judges c =
    let judges = c.judges_by-judges.result in
    let lent = c.judges_by-judges.ensures in
    let work = c.in_ok-work.work in
    lent_judges c.args.alphabet.now c.args.pairs.now c.args.checks.now judges.checks.now work.compiled.items judges.compiled.now work.places.items
    judges.places.now work.others.items judges.others.now lent.checks lent.compiled lent.places lent.others c.in_ok-work.ensures.judges

pub returns-clause-rows : goal.returns-clause-rows
returns-clause-rows c =
    let judges = c.judges_by-judges.result in
    let lent = c.judges_by-judges.ensures in
    let work = c.in_ok-work.work in
    let prepared = c.in_ok-work.ensures in
    if_ok (λ rows. AllZip (IsRowBy c.args.alphabet.now judges.checks.now judges.compiled.now c.args.pairs.now) c.deref.result.now rows.items)
    (λ rows. AreRowsOf c.args.alphabet.now c.args.states c.args.checks.now c.args.pairs.now rows.items) c.decide_all.result
    (λ rows each. are_rows c.args.alphabet.now c.args.states c.args.checks.now c.args.pairs.now work.compiled.items judges.compiled.now
    work.planned.items c.deref.result.now rows.items lent.compiled prepared.limit c.deref.ensures.value prepared.plan
    (subst (λ (checks : List Check). AllZip (IsRowBy c.args.alphabet.now checks judges.compiled.now c.args.pairs.now) c.deref.result.now rows.items) lent.checks each))
    c.decide_all.ensures.rows
