use Rattle.rela_names.proofs.ShortlexLaws.{before_total}
use Rattle.rela_names.proofs.shortlex.shortlex_is_total.Goals as goal

pub returns : goal.returns
returns c = before_total
