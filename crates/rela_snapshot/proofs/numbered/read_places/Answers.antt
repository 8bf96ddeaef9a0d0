use Rattle.rela_snapshot.proofs.Indexes.{indexes_below}
use Rattle.rela_snapshot.proofs.numbered.read_places.Goals as goal

pub returns-in-Ok-clause-within : goal.returns-in-Ok-clause-within
returns-in-Ok-clause-within c = indexes_below _ _ _ c.in-Ok.ensures.indexes
