use Rattle.rela_report.specs.declared.rows.ReportRow.TheVariants.{Selected}
use Rattle.rela_report.proofs.WriterLaws.{written_more}
use Rattle.rela_report.proofs.writing.ReportWriter.push_selected.Goals as goal

pub returns : goal.returns
returns c = λ rows is.
    written_more c.args.alphabet.now rows (Selected c.args.flow.now c.args.check.now c.args.row.now) c.args.self.now c.self.inside.text.items
    c.push_selected_lines.new.text.items c.self.inside.counts c.count_verdict.new.self c.self.view_is c.in_ok-push_selected_lines.ensures.lines
    (c.count_verdict.ensures.kinds c.args.flow.now c.args.check.now) is
