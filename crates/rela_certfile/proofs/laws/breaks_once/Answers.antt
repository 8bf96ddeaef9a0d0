use Rattle.rela_certfile.proofs.OneBreak.{breaks_once}
use Rattle.rela_certfile.proofs.laws.breaks_once.Goals as goal

pub returns : goal.returns
returns c = λ l text m n is short a b. breaks_once l text m n is short a b
