use Rattle.rela_names.proofs.ShortlexLaws.{before_irreflexive}
use Rattle.rela_names.proofs.shortlex.shortlex_is_irreflexive.Goals as goal

pub returns : goal.returns
returns c = before_irreflexive
