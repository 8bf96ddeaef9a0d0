use Rattle.rela_certfile.proofs.Derived.{listed_from}
use Rattle.rela_certfile.proofs.laws.listed_as.Goals as goal

pub returns : goal.returns
returns c = λ l rows i row are is. (listed_from l 0 rows i row are is).1
