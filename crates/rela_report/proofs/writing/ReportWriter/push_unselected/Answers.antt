use Rattle.std.proofs.Common.{[]}
use Rattle.rela_report.specs.declared.rows.ReportRow.TheVariants.{Unselected}
use Rattle.rela_report.proofs.WriterLaws.{longer, written_more}
use Rattle.rela_report.proofs.writing.ReportWriter.push_unselected.Goals as goal

pub invariant_of-self-2 : goal.invariant_of-self-2
invariant_of-self-2 c =
    longer (Unselected c.args.flow.now) c.self.inside.text.items c.push_unselected_line.new.text.items c.self.inside.counts c.count_unselected.new.self
    c.self.invariant (c.in_ok-push_unselected_line.ensures.line []) c.count_unselected.ensures.all

pub returns : goal.returns
returns c = λ names rows is.
    written_more names rows (Unselected c.args.flow.now) c.args.self.now c.self.inside.text.items c.push_unselected_line.new.text.items
    c.self.inside.counts c.count_unselected.new.self c.self.view_is (c.in_ok-push_unselected_line.ensures.line names)
    (c.count_unselected.ensures.kinds c.args.flow.now) is
