use Rattle.std.proofs.Common.{◌≡◌, List, arith, subst}
use Rattle.std.proofs.lemmas.List.{take_all}
use Rattle.rela_report.specs.Text.{report_text}
use Rattle.rela_report.specs.declared.rows.ReportRow.{ReportRow}
use Rattle.rela_report.proofs.WriterLaws.{if_ok}
use Rattle.rela_report.proofs.texts.text.Goals as goal

pub loop-row-init : goal.loop-row-init
loop-row-init c = c.new-writer.ensures c.args.alphabet.now

pub returns : goal.returns
returns c =
    if_ok c.finish.result
    (λ text finished. subst (λ (rows : List ReportRow). text.items ≡ report_text c.args.alphabet.now rows)
    (take_all c.loop-row.row-index c.args.rows.now (omega (arith, c.loop-row-test.false)))
    (finished c.args.alphabet.now _ c.loop-row.invariant))
    c.finish.ensures
