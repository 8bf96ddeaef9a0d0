use Rattle.rela_rir.proofs.Stars.{star_unfolds}
use Rattle.rela_rir.proofs.laws.star_unfolds.Goals as goal

pub returns : goal.returns
returns g c = star_unfolds g.X.WordSet.contains
