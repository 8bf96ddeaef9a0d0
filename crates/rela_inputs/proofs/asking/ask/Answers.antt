use Rattle.std.proofs.Common.{refl}
use Rattle.rela_inputs.proofs.TreeLaws.{asks_refused, checks_asked}
use Rattle.rela_inputs.proofs.asking.ask.Goals as goal

pub returns-in-Ok-clause-asked : goal.returns-in-Ok-clause-asked
returns-in-Ok-clause-asked c = checks_asked c.args.locations.now c.args.file.now c.in-Ok.checks.items c.in-Ok.ensures.checks c.in-Ok.ensures.level

pub returns-in-Err-clause-asked : goal.returns-in-Err-clause-asked
returns-in-Err-clause-asked c = asks_refused c.args.locations.now c.args.file.now c.in-Err.error _ c.spec_halt.ensures c.in-Err.ensures.refused

pub returns-in-Ok-clause-is_asked : goal.returns-in-Ok-clause-is_asked
returns-in-Ok-clause-is_asked c = record { outcomes = c.in-Ok.ensures.checks; level = refl; levels = c.in-Ok.ensures.level }
