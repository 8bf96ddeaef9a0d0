use Rattle.serde_json.specs.View.{view}
use Rattle.rela_locations.proofs.LoadLaws.{loaded_names}
use Rattle.rela_locations.proofs.locations.Locations.decode.Goals as goal

pub locations_of-requires-clause-once : goal.locations_of-requires-clause-once
locations_of-requires-clause-once c = rw c.as_slice.ensures.value (loaded_names (view c.in_ok-root.root) c.in_ok-entries.entries.items c.in_ok-entries.ensures.network)
