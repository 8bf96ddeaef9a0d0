use Rattle.std.proofs.Common.{ap, sym, subst, ◌∙◌}
use Rattle.std.proofs.lemmas.Result.{on_ok_weaker}
use Rattle.rela_nfa.specs.Meeting.{pair_of}
use Rattle.rela_letter_image.specs.Growth.{Grows}
use Rattle.rela_letter_image.specs.Steps.{step_if, step_to, written_by}
use Rattle.rela_letter_image.proofs.LaidOut.{read_is}
use Rattle.rela_letter_image.proofs.reads.add_by_set.Goals as goal

pub returns : goal.returns
returns c =
    let edge = c.args.edge in
    let step = c.args.step.now in
    let to = pair_of edge.to step.to in
    on_ok_weaker c.add_read_if.result
    (λ grows. subst (λ l. Grows l c.args.growing.now c.add_read_if.new.growing)
    (ap (λ b. step_if b (step_to (written_by edge.letter step.writes) to)) c.contains.ensures.has ∙ sym (read_is c.args.coarse edge.letter step.set step.writes to)) grows) c.add_read_if.ensures
