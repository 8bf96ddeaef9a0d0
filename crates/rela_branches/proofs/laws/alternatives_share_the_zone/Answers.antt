use Rattle.rela_branches.proofs.Blames.{shared}
use Rattle.rela_branches.proofs.laws.alternatives_share_the_zone.Goals as goal

pub returns : goal.returns
returns c classes locations body word = shared classes locations body word
