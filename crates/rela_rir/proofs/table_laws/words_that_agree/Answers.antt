use Rattle.rela_rir.proofs.ExactTables.{agree_places}
use Rattle.rela_rir.proofs.LeafTables.{same_states}
use Rattle.rela_rir.proofs.table_laws.words_that_agree.Goals as goal

pub returns-clause-states : goal.returns-clause-states
returns-clause-states g c at x a placed v w agree q = same_states placed.is_table v w agree q

pub returns-clause-places : goal.returns-clause-places
returns-clause-places g c holds at x n a placed v w alike p = (
  agree_places placed.is_table (placed.exact holds) v w (λ q. (alike q).0) p,
  agree_places placed.is_table (placed.exact holds) w v (λ q. (alike q).1) p,
)
