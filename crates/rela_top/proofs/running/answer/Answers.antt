use Rattle.rela_inputs.specs.Answer.{answer_by}
use Rattle.rela_words.specs.Commands.{command_of}
use Rattle.rela_top.proofs.Given.{GivenBy-made, GivenBy-refusing, made_complete, refused_complete, no_fault}
use Rattle.rela_top.proofs.running.answer.Goals as goal

pub returns-in-Ok-clause-fits : goal.returns-in-Ok-clause-fits
returns-in-Ok-clause-fits g c =
    GivenBy-made _ _ (command_of c.args.command.now) _ (answer_by c.in-Ok.answer) c.in-Ok.ensures.given c.in-Ok.ensures.ends.ok_given

pub returns-in-Ok-clause-complete : goal.returns-in-Ok-clause-complete
returns-in-Ok-clause-complete g c = λ steady outcome given.
    made_complete _ _ (command_of c.args.command.now) (answer_by c.in-Ok.answer) outcome c.in-Ok.ensures.given (g.met.F.Files.steady_tells_files c.args.files.now steady) given

pub returns-in-Ok-refusal_line-clause-fits : goal.returns-in-Ok-refusal_line-clause-fits
returns-in-Ok-refusal_line-clause-fits g c =
    let ends = rw c.in-Err-Refused.field-0-is at c.in-Err-Refused.ensures.ends in
    let given = rw c.in-Err-Refused.field-0-is at c.in-Err-Refused.ensures.given in
    GivenBy-refusing _ _ (command_of c.args.command.now) _ _ c.in-Err-Refused.refusal given ends.halts.1 c.in-Ok-refusal_line.ensures

pub returns-in-Ok-refusal_line-clause-complete : goal.returns-in-Ok-refusal_line-clause-complete
returns-in-Ok-refusal_line-clause-complete g c = λ steady outcome is.
    let given = rw c.in-Err-Refused.field-0-is at c.in-Err-Refused.ensures.given in
    refused_complete _ _ (command_of c.args.command.now) _ c.in-Err-Refused.refusal outcome given (g.met.F.Files.steady_tells_files c.args.files.now steady) is c.in-Ok-refusal_line.ensures

pub returns-in-Err-ReadFault-clause-fault_gives_nothing : goal.returns-in-Err-ReadFault-clause-fault_gives_nothing
returns-in-Err-ReadFault-clause-fault_gives_nothing g c = λ steady fault outcome is.
    let given = rw c.in-Err-ReadFault.field-0-is at c.in-Err-ReadFault.ensures.given in
    no_fault _ _ (command_of c.args.command.now) outcome given (g.met.F.Files.steady_tells_files c.args.files.now steady) steady is
