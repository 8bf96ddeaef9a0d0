use Rattle.rela_snapshot.proofs.Keys.{table_empty}
use Rattle.rela_snapshot.proofs.name_table.NameTable.new.Goals as goal

pub invariant_of-result : goal.invariant_of-result
invariant_of-result c = table_empty c.new.result.keys c.new.ensures.len
