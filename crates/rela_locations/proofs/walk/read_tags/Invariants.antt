use Rattle.std.proofs.Common.{◌≡◌, drop, map}
use Rattle.serde_json.specs.View.{view}
use Rattle.rela_json.specs.Results.{try_map}
use Rattle.rela_locations.specs.Load.{load_tag}
use Rattle.rela_locations.proofs.Loops.{with_front}
use Rattle.rela_locations.proofs.walk.read_tags.Given as goal

-- the tags so far, and what comes of the entries that are left
abbrev pub invariant-loop-value : goal.invariant-loop-value
invariant-loop-value l = with_front l.tags.items (try_map (load_tag l.row) (map view (drop l.value-index l.values))) ≡ try_map (load_tag l.row) (map view l.values)
