use Rattle.rela_blame.proofs.Files.{counted}
use Rattle.rela_blame.proofs.branch_laws.alternatives_stay_as_many.Goals as goal

pub returns : goal.returns
returns c network file tokens checks spells full is = counted network file tokens checks spells full is
