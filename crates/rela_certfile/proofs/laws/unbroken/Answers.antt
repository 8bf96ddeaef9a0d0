use Rattle.rela_certfile.proofs.OneBreak.{unbroken}
use Rattle.rela_certfile.proofs.laws.unbroken.Goals as goal

pub returns : goal.returns
returns c = λ l rows line is listed short breaks. unbroken l rows line is listed short breaks
