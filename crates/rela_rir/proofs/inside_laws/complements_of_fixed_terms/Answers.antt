use Rattle.rela_rir.proofs.FixedParts.{part_fixed, part_fixed_r}
use Rattle.rela_rir.proofs.inside_laws.complements_of_fixed_terms.Goals as goal

pub returns-clause-paths : goal.returns-clause-paths
returns-clause-paths c x part = part_fixed part x

pub returns-clause-relations : goal.returns-clause-relations
returns-clause-relations c r part = part_fixed_r part r
