use Rattle.std.proofs.Common.{◌≡◌, Err, arith}
use Rattle.rela_inputs.proofs.TreeLaws.{no_tree_no_checks, checks_of}
use Rattle.rela_inputs.proofs.asking.read_asked.Goals as goal

pub returns-in_err-file-clause-asked : goal.returns-in_err-file-clause-asked
returns-in_err-file-clause-asked c =
    let fault : c.from_residual.result ≡ Err c.in_err-file.field-0.0 = grind arith in
    rw fault (no_tree_no_checks _ _ c.in_err-file.field-0.0 c.in_err-file.ensures.tree)

pub returns-clause-asked : goal.returns-clause-asked
returns-clause-asked c = checks_of _ c.in_ok-file.file _ _ c.in_ok-file.ensures.tree c.ask.ensures.asked
