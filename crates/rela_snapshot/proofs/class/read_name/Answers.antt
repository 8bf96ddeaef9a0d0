use Rattle.std.proofs.Common.{◌≡◌, Err, arith}
use Rattle.rela_snapshot.proofs.Refusing.{never, part_apart, string_apart}
use Rattle.rela_snapshot.proofs.class.read_name.Goals as goal

pub returns-in_err-part-clause-memory : goal.returns-in_err-part-clause-memory
returns-in_err-part-clause-memory c =
    let e = c.in_err-part.field-0.0 in
    let fails : c.from_residual.result ≡ Err e = grind arith in
    never _ e _ fails c.in_err-part.ensures.fault (part_apart _ _ _ _)

pub returns-in_err-bytes-clause-memory : goal.returns-in_err-bytes-clause-memory
returns-in_err-bytes-clause-memory c =
    let e = c.in_err-bytes.field-0.0 in
    let fails : c.from_residual-in_err-bytes.result ≡ Err e = grind arith in
    never _ e _ fails c.in_err-bytes.ensures.fault (string_apart _ _ _)
