use Rattle.rela_certfile.proofs.Planned.{planned_differ, planned_named}
use Rattle.rela_certfile.proofs.laws.planned_rows.Goals as goal

pub returns-clause-differ : goal.returns-clause-differ
returns-clause-differ c = λ classes checks rows plan. planned_differ classes checks rows plan

pub returns-clause-named : goal.returns-clause-named
returns-clause-named c = λ classes checks rows plan. planned_named classes checks rows plan
