use Rattle.std.proofs.Common.{ℕ, List, sym, subst}
use Rattle.rela_snapshot.specs.declared.pairing.FlowPair.{FlowPair}
use Rattle.rela_translate.specs.Checked.{Checked as Check}
use Rattle.rela_inputs.specs.Loaded.{loaded_by, names_of}
use Rattle.rela_rows.specs.Rows.{AreChecksAt}
use Rattle.rela_change_report.proofs.ReportLaws.{is_outcome, rows_reported}
use Rattle.rela_change_report.proofs.reporting.report_on.Goals as goal

pub write_rows-requires-clause-checks : goal.write_rows-requires-clause-checks
write_rows-requires-clause-checks c =
    let change = loaded_by c.args.loaded.now in
    subst (λ (ns : List (List ℕ)). AreChecksAt ns c.deref.result.now c.deref-2.result.now) (sym c.alphabet-names.ensures)
    (subst (λ (ps : List FlowPair). AreChecksAt (names_of change) ps c.deref-2.result.now) (sym c.deref.ensures.value)
    (subst (λ (cs : List Check). AreChecksAt (names_of change) change.pairs cs) (sym c.deref-2.ensures.value) c.requires.checks))

pub returns-clause-reports : goal.returns-clause-reports
returns-clause-reports c =
    let names = c.alphabet-names.result.now in
    let written = c.in_ok-writer.ensures in
    rows_reported _ (loaded_by c.args.loaded.now) names c.deref.result.now c.deref-2.result.now written.0 c.in_ok-text.text.items c.status-status.result
    c.alphabet-names.ensures c.deref.ensures.value c.deref-2.ensures.value written.1
    (c.in_ok-text.ensures names written.0 written.2) (c.status-status.ensures names written.0 written.2)

pub returns-clause-status : goal.returns-clause-status
returns-clause-status c =
    let written = c.in_ok-writer.ensures in
    is_outcome written.0 c.status-status.result (c.status-status.ensures c.alphabet-names.result.now written.0 written.2)
