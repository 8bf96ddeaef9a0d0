use Rattle.std.proofs.Common.{ap, sym, subst, ◌∙◌}
use Rattle.std.proofs.lemmas.Result.{on_ok_weaker}
use Rattle.rela_letter_source.specs.Growth.{Grows}
use Rattle.rela_letter_source.specs.Steps.{read_if}
use Rattle.rela_letter_source.proofs.LaidOut.{read_is}
use Rattle.rela_letter_source.proofs.sources.add_by_set.Goals as goal

pub returns : goal.returns
returns c =
    let edge = c.args.edge in
    let step = c.args.step.now in
    on_ok_weaker c.add_read_if.result
    (λ grows. subst (λ l. Grows l c.args.growing.now c.add_read_if.new.growing)
    (ap (λ b. read_if b edge step.writes step.to) c.contains-is_read.ensures.has ∙ sym (read_is edge step.set step.writes step.to)) grows) c.add_read_if.ensures
