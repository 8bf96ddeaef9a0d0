use Rattle.rela_inputs.proofs.TextLaws.{tables_read, tables_refused}
use Rattle.rela_inputs.proofs.texts.read_tables.Goals as goal

pub returns-in-Ok-clause-tables : goal.returns-in-Ok-clause-tables
returns-in-Ok-clause-tables c = tables_read _ _ _ c.in-Ok.tables c.in-Ok.ensures.tables

pub returns-in-Err-clause-tables : goal.returns-in-Err-clause-tables
returns-in-Err-clause-tables c = tables_refused _ _ _ c.in-Err.error _ c.load_halt.ensures c.in-Err.ensures.fault
