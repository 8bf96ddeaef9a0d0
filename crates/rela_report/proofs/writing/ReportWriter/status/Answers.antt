use Rattle.std.proofs.Common.{◌∙◌, ap, arith}
use Rattle.rela_report.specs.Written.{Written}
use Rattle.rela_report.proofs.WriterLaws.{status_met, status_undecided, status_violated}
use Rattle.rela_report.proofs.writing.ReportWriter.status.Goals as goal

pub returns-then-self-gt0 : goal.returns-then-self-gt0
returns-then-self-gt0 c = λ names rows is.
    let violated = ap (λ (w : Written). w.violated) (c.self.view_is ∙ is) in
    status_violated rows (omega (arith, violated, c.if-self-gt0.true))

pub returns-then-self-gt0-2 : goal.returns-then-self-gt0-2
returns-then-self-gt0-2 c = λ names rows is.
    let violated = ap (λ (w : Written). w.violated) (c.self.view_is ∙ is) in
    let undecided = ap (λ (w : Written). w.undecided) (c.self.view_is ∙ is) in
    status_undecided rows (omega (arith, violated, c.if-self-gt0.false)) (omega (arith, undecided, c.if-self-gt0-2.true))

pub returns-else-self-gt0-2 : goal.returns-else-self-gt0-2
returns-else-self-gt0-2 c = λ names rows is.
    let violated = ap (λ (w : Written). w.violated) (c.self.view_is ∙ is) in
    let undecided = ap (λ (w : Written). w.undecided) (c.self.view_is ∙ is) in
    status_met rows (omega (arith, violated, c.if-self-gt0.false)) (omega (arith, undecided, c.if-self-gt0-2.false))
