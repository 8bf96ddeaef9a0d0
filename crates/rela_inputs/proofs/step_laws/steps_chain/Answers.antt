use Rattle.rela_inputs.proofs.ChainLaws.{chained}
use Rattle.rela_inputs.proofs.step_laws.steps_chain.Goals as goal

pub returns : goal.returns
returns g c = λ told steady point. chained told steady (g.S.Steps.chain point)
