use Rattle.rela_names.proofs.ShortlexLaws.{before_transitive}
use Rattle.rela_names.proofs.shortlex.shortlex_is_transitive.Goals as goal

pub returns : goal.returns
returns c = before_transitive
