use Rattle.rela_tables.proofs.PlainLaws.{file_read}
use Rattle.rela_tables.proofs.plain.read_plain.Goals as goal

pub returns-clause-tables : goal.returns-clause-tables
returns-clause-tables c =
    rw (c.from_vec.ensures, c.from_vec-2.ensures) (file_read _ _ _ _ _ _ _ _ c.what_holds.ensures.object c.what_holds.ensures.text c.in-Ok.ensures.cases c.new-reader.ensures c.in_ok-starts.ensures.starts c.in_ok-tables.ensures.tables c.in_ok-close_text.ensures.brace)
