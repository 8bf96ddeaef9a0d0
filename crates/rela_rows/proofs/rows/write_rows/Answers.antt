use Rattle.std.proofs.Common.{List, length, sym, subst}
use Rattle.std.specs.List.{All}
use Rattle.rela_flows.specs.declared.planning.PlannedRow.{PlannedRow}
use Rattle.rela_plan.specs.Within.{IsWithin}
use Rattle.rela_translate.specs.Checked.{Checked as Check}
use Rattle.rela_rows.specs.Rows.{AreRowsWritten}
use Rattle.rela_rows.specs.Sharing.{IsRowBy}
use Rattle.rela_rows.specs.Writing.{AreWritten}
use Rattle.rela_rows.proofs.Judging.{lent_judges, rows_written}
use Rattle.rela_rows.proofs.Loops.{if_ok}
use Rattle.rela_rows.proofs.rows.write_rows.Goals as goal

pub write_all-requires-clause-planned : goal.write_all-requires-clause-planned
write_all-requires-clause-planned c =
    subst (λ (checks : List Check). All (IsWithin (length c.args.pairs.now) (length checks)) c.deref.result.now) (sym c.judges_by-judges.ensures.checks)
    (subst (λ (rows : List PlannedRow). All (IsWithin (length c.args.pairs.now) (length c.args.checks.now)) rows) (sym c.deref.ensures.value) c.in_ok-work.ensures.within)

pub write_all-requires-clause-judges : goal.write_all-requires-clause-judges
write_all-requires-clause-judges c =
    let judges = c.judges_by-judges.result in
    let lent = c.judges_by-judges.ensures in
    let work = c.in_ok-work.work in
    lent_judges c.args.alphabet.now c.args.pairs.now c.args.checks.now judges.checks.now work.compiled.items judges.compiled.now work.places.items
    judges.places.now work.others.items judges.others.now lent.checks lent.compiled lent.places lent.others c.in_ok-work.ensures.judges

pub returns : goal.returns
returns c =
    let judges = c.judges_by-judges.result in
    let work = c.in_ok-work.work in
    let prepared = c.in_ok-work.ensures in
    if_ok (AreWritten (IsRowBy c.args.alphabet.now judges.checks.now judges.compiled.now c.args.pairs.now) c.args.alphabet.now c.deref.result.now)
    (AreRowsWritten c.args.alphabet.now c.args.states c.args.checks.now c.args.pairs.now) c.write_all.result
    (λ writer written. rows_written c.args.alphabet.now c.args.states c.args.checks.now judges.checks.now c.args.pairs.now work.compiled.items judges.compiled.now
    work.planned.items c.deref.result.now writer c.judges_by-judges.ensures.checks c.judges_by-judges.ensures.compiled c.deref.ensures.value prepared.limit prepared.plan written)
    c.write_all.ensures
