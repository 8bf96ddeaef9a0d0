use Rattle.rela_certfile.proofs.Once.{rows_once}
use Rattle.rela_certfile.proofs.laws.one_reading.Goals as goal

pub returns : goal.returns
returns c = λ l a b is listed other short same. rows_once l a b is listed other short same
