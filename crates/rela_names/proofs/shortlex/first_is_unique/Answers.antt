use Rattle.rela_names.proofs.ShortlexLaws.{same_first}
use Rattle.rela_names.proofs.shortlex.first_is_unique.Goals as goal

pub returns : goal.returns
returns g c = same_first g.X.WordSet.contains
