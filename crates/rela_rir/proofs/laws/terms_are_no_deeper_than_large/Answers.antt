use Rattle.rela_rir.proofs.SizeLaws.{fits, fits_r}
use Rattle.rela_rir.proofs.laws.terms_are_no_deeper_than_large.Goals as goal

pub returns-clause-paths : goal.returns-clause-paths
returns-clause-paths c = fits

pub returns-clause-relations : goal.returns-clause-relations
returns-clause-relations c = fits_r
