use Rattle.rela_inputs.proofs.PairLaws.{flows_paired, pair_refused}
use Rattle.rela_inputs.proofs.texts.pair_flows.Goals as goal

pub returns-in-Ok-clause-pairs : goal.returns-in-Ok-clause-pairs
returns-in-Ok-clause-pairs c = flows_paired _ _ c.in-Ok.pairs.items c.in-Ok.ensures.pairs

pub returns-in-Err-clause-pairs : goal.returns-in-Err-clause-pairs
returns-in-Err-clause-pairs c = pair_refused _ _ c.in-Err.error _ c.pair_halt.ensures c.in-Err.ensures.differs
