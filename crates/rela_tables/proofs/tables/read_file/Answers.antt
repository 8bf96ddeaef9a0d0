use Rattle.std.proofs.Common.{◌≡◌, Err, arith}
use Rattle.rela_tables.proofs.WalkLaws.{no_contents, no_tables, file_whole}
use Rattle.rela_tables.proofs.tables.read_file.Goals as goal

pub returns-in_err-starts-clause-fault : goal.returns-in_err-starts-clause-fault
returns-in_err-starts-clause-fault c =
    let is : c.from_residual.result ≡ Err c.in_err-starts.field-0.0 = grind arith in
    rw is (λ no. no_contents _ _ _ (c.in_err-starts.ensures.fault no))

pub returns-in_err-tables-clause-fault : goal.returns-in_err-tables-clause-fault
returns-in_err-tables-clause-fault c =
    let is : c.from_residual-in_err-tables.result ≡ Err c.in_err-tables.field-0.0 = grind arith in
    rw is (λ no. no_tables _ _ _ _ _ c.in_ok-starts.ensures.contents (c.in_err-tables.ensures.fault no))

pub returns-clause-tables : goal.returns-clause-tables
returns-clause-tables c = rw (c.from_vec.ensures, c.from_vec-2.ensures) (file_whole _ _ _ _ _ c.in_ok-starts.ensures.contents c.in_ok-tables.ensures.tables)
