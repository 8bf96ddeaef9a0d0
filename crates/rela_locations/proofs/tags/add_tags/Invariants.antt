use Rattle.std.proofs.Common.{◌≡◌, ℕ, List, ◌&&◌, ◌||◌, ◌==◌, is_some, take}
use Rattle.std.specs.BTreeMap.{get}
use Rattle.rela_names.specs.Name.{bytes_cmp}
use Rattle.rela_locations.specs.Names.{has_name}
use Rattle.rela_locations.specs.Tables.{has_number, devices_for}
use Rattle.rela_locations.proofs.tags.add_tags.Given as goal

abbrev pub invariant-loop-tag : goal.invariant-loop-tag
invariant-loop-tag l = record {
  with_tag : (t : List ℕ) (n : ℕ) → has_number (devices_for l.tagged t) n ≡ (has_number (devices_for l.initial.tagged t) n || (has_name (take l.tag-index l.tags) t && (l.device == n)));
  tags : (t : List ℕ) → is_some (get bytes_cmp l.tagged t) ≡ (is_some (get bytes_cmp l.initial.tagged t) || has_name (take l.tag-index l.tags) t);
}
