use Rattle.std.proofs.Common.{◌≡◌, drop, map}
use Rattle.serde_json.specs.View.{view}
use Rattle.rela_json.specs.Indexes.{index_of, indexes_of}
use Rattle.rela_json.specs.Results.{try_map}
use Rattle.rela_json.proofs.Loops.{with_front}
use Rattle.rela_json.proofs.indexes.index_list.Given as goal

-- the indexes so far, and what comes of the entries that are left
abbrev pub invariant-loop-entry : goal.invariant-loop-entry
invariant-loop-entry l = with_front l.indexes.items (try_map (index_of l.below) (map view (drop l.entry-index l.entries))) ≡ indexes_of l.below (view l.value)
