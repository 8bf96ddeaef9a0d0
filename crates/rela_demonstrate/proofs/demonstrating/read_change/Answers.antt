use Rattle.rela_demonstrate.proofs.LayerLaws.{memory_passed}
use Rattle.rela_demonstrate.proofs.demonstrating.read_change.Goals as goal

pub returns-in_err-pairs-clause-layered : goal.returns-in_err-pairs-clause-layered
returns-in_err-pairs-clause-layered c = λ n here is.
    memory_passed _ c.from_residual.result c.in_err-pairs.field-0.0 c.from_residual.ensures.1 (c.in_err-pairs.ensures.layered n here is)

pub returns-in_err-asked-clause-layered : goal.returns-in_err-asked-clause-layered
returns-in_err-asked-clause-layered c = λ n here is.
    memory_passed _ c.from_residual-in_err-asked.result c.in_err-asked.field-0.0 c.from_residual-in_err-asked.ensures.1 (c.in_err-asked.ensures.layered n here is)

pub returns-clause-layered : goal.returns-clause-layered
returns-clause-layered c = λ n here is. (c.in_ok-pairs.ensures.layered n here is, c.in_ok-asked.ensures.layered n here is)
