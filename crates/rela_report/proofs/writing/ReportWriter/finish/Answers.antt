use Rattle.std.proofs.Common.{◌∙◌, ◌++◌, List, ℕ, ap}
use Rattle.rela_report.proofs.WriterLaws.{total_counted}
use Rattle.rela_report.proofs.writing.ReportWriter.finish.Goals as goal

pub returns : goal.returns
returns c = λ names rows is.
    total_counted names rows c.args.self c.self.inside.text.items c.in_ok-last.last.items c.extend_from_slice.new.self.items c.self.inside.counts c.all.result
    c.self.view_is c.all.ensures c.in_ok-last.ensures
    (c.in_ok-extend_from_slice.ensures.items ∙ ap (λ (last : List ℕ). c.self.inside.text.items ++ last) c.as_slice.ensures.value) is
