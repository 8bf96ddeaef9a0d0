use Rattle.std.proofs.Common.{◌≡◌, Err, ap, arith}
use Rattle.std.proofs.lemmas.Result.{err_from_is_err_and}
use Rattle.rela_tables.proofs.WalkLaws.{json_fault, has_json}
use Rattle.rela_tables.proofs.tables.Tables.decode.Goals as goal

pub returns-in_err-root-clause-fault : goal.returns-in_err-root-clause-fault
returns-in_err-root-clause-fault c =
    let made = err_from_is_err_and c.from_residual.result c.from_residual.ensures.1 in
    let told = c.in_err-root.ensures.not_json in
    rw (made.1) (λ no. json_fault _ _ c.in_err-root.field-0.0 _ made.2 (λ same. told (ap (λ e. Err e) same)) no)

pub returns-in_err-tables-clause-fault : goal.returns-in_err-tables-clause-fault
returns-in_err-tables-clause-fault c =
    let is : c.from_residual-in_err-tables.result ≡ Err c.in_err-tables.field-0.0 = grind arith in
    rw is (λ no. has_json _ _ _ _ c.in_ok-root.ensures.value (c.in_err-tables.ensures.fault no))

pub returns-clause-tables : goal.returns-clause-tables
returns-clause-tables c = has_json _ _ _ _ c.in_ok-root.ensures.value c.in_ok-tables.ensures.tables
