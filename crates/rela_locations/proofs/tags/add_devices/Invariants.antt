use Rattle.std.proofs.Common.{◌≡◌, ℕ, List, ◌||◌, is_some, take}
use Rattle.std.specs.BTreeMap.{get}
use Rattle.std.specs.List.{flat_map}
use Rattle.rela_names.specs.Name.{bytes_cmp}
use Rattle.rela_locations.specs.Names.{has_name}
use Rattle.rela_locations.specs.Tables.{has_number, devices_for, is_tagged}
use Rattle.rela_locations.proofs.tags.add_devices.Given as goal

abbrev pub invariant-loop-device : goal.invariant-loop-device
invariant-loop-device l = record {
  with_tag : (t : List ℕ) (n : ℕ) → has_number (devices_for l.tagged t) n ≡ (has_number (devices_for l.initial.tagged t) n || is_tagged l.devices (take l.device-index l.entries) t n);
  tags : (t : List ℕ) → is_some (get bytes_cmp l.tagged t) ≡ (is_some (get bytes_cmp l.initial.tagged t) || has_name (flat_map (λ device. device.tags) (take l.device-index l.entries)) t);
}
