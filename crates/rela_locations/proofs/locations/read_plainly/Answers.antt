use Rattle.rela_locations.proofs.LoadLaws.{read_names}
use Rattle.rela_locations.proofs.locations.read_plainly.Goals as goal

pub locations_of-requires-clause-once : goal.locations_of-requires-clause-once
locations_of-requires-clause-once c = rw c.as_slice.ensures.value (read_names _ _ c.in_ok-entries.ensures.network)
