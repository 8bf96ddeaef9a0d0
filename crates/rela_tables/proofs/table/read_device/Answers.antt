use Rattle.std.proofs.Common.{◌≡◌, Err, arith}
use Rattle.rela_tables.proofs.Refusing.{never, part_apart, string_apart, symbol_apart}
use Rattle.rela_tables.proofs.table.read_device.Goals as goal

pub returns-in_err-part-clause-memory : goal.returns-in_err-part-clause-memory
returns-in_err-part-clause-memory c =
    let e = c.in_err-part.field-0.0 in
    let fails : c.from_residual.result ≡ Err e = grind arith in
    never _ e _ fails c.in_err-part.ensures.fault (part_apart _ _ _ _)

pub returns-in_err-name-clause-memory : goal.returns-in_err-name-clause-memory
returns-in_err-name-clause-memory c =
    let e = c.in_err-name.field-0.0 in
    let fails : c.from_residual-in_err-name.result ≡ Err e = grind arith in
    never _ e _ fails c.in_err-name.ensures.fault (string_apart _ _ _)

pub returns-in_err-found-clause-memory : goal.returns-in_err-found-clause-memory
returns-in_err-found-clause-memory c =
    let e = c.in_err-found.field-0.0 in
    let fails : c.from_residual-in_err-found.result ≡ Err e = grind arith in
    never _ e _ fails c.in_err-found.ensures.fault (symbol_apart _ _ _ _)
