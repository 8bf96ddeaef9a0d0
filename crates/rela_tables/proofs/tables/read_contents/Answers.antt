use Rattle.std.proofs.Common.{◌≡◌, Err, arith}
use Rattle.rela_tables.proofs.Refusing.{never, part_apart, whole_number_apart}
use Rattle.rela_tables.proofs.tables.read_contents.Goals as goal

pub returns-in_err-part-clause-memory : goal.returns-in_err-part-clause-memory
returns-in_err-part-clause-memory c =
    let e = c.in_err-part.field-0.0 in
    let fails : c.from_residual.result ≡ Err e = grind arith in
    never _ e _ fails c.in_err-part.ensures.fault (part_apart _ _ _ _)

pub returns-in_err-version-clause-memory : goal.returns-in_err-version-clause-memory
returns-in_err-version-clause-memory c =
    let e = c.in_err-version.field-0.0 in
    let fails : c.from_residual-in_err-version.result ≡ Err e = grind arith in
    never _ e _ fails c.in_err-version.ensures.fault (whole_number_apart _ _ _)
