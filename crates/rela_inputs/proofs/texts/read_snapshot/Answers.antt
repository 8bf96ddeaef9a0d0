use Rattle.rela_inputs.proofs.TextLaws.{flows_read, flows_refused}
use Rattle.rela_inputs.proofs.texts.read_snapshot.Goals as goal

pub returns-in-Ok-clause-flows : goal.returns-in-Ok-clause-flows
returns-in-Ok-clause-flows c = flows_read _ _ _ c.in-Ok.snapshot c.in-Ok.ensures.load

pub returns-in-Err-clause-flows : goal.returns-in-Err-clause-flows
returns-in-Err-clause-flows c = flows_refused _ _ _ c.in-Err.error _ c.load_halt.ensures c.in-Err.ensures.fault
