use Rattle.std.proofs.Common.{◌≡◌, ℕ, List, length, map, replicate, refl, ap, ◌∙◌}
use Rattle.rela_names.specs.Name.{IsAscending}
use Rattle.rela_names.specs.declared.level.Level.TheVariants as level
use Rattle.rela_locations.specs.Network.{alphabet_of}
use Rattle.rela_locations.specs.Tables.{with_entries}
use Rattle.rela_locations.proofs.Lookups.{parents_in_range}
use Rattle.rela_locations.proofs.Parents.{numbered, parent_table}
use Rattle.rela_locations.proofs.Relations.{device_group_pairs, device_lies_in_group}
use Rattle.rela_locations.proofs.TableLaws.{known_names, device_group_are_pairs, device_group_numbers, numbers_in_range, contains_as_told, both_of_ok}
use Rattle.rela_locations.proofs.tables.devices_in_groups.Goals as goal

pub devices_with_groups-requires-clause-devices : goal.devices_with_groups-requires-clause-devices
devices_with_groups-requires-clause-devices c = known_names _ _ level.Device c.args.groups.now c.requires.alphabets.devices refl

pub devices_with_groups-requires-clause-groups : goal.devices_with_groups-requires-clause-groups
devices_with_groups-requires-clause-groups c = known_names _ _ level.Group c.args.groups.now c.requires.alphabets.groups refl

pub new-requires-clause-pairs : goal.new-requires-clause-pairs
new-requires-clause-pairs c =
    let network = c.args.groups.now in
    let cs : List (List ℕ) = alphabet_of level.Device network in
    let ps : List (List ℕ) = alphabet_of level.Group network in
    let inner : c.count_of-inner.result ≡ length cs = c.count_of-inner.ensures.count ∙ ap length c.requires.alphabets.devices in
    let outer : c.count_of-outer.result ≡ length ps = c.count_of-outer.ensures.count ∙ ap length c.requires.alphabets.groups in
    let cs_ascend : IsAscending cs = rw (← c.requires.alphabets.devices) c.count_of-inner.ensures.ascending in
    let ps_ascend : IsAscending ps = rw (← c.requires.alphabets.groups) c.count_of-outer.ensures.ascending in
    let are = device_group_are_pairs network c.requires.once cs_ascend ps_ascend in
    let numbers : c.as_slice.result.now ≡ map (numbered cs ps) (device_group_pairs network) =
    c.as_slice.ensures.value ∙ c.in_ok-pairs.ensures ∙ device_group_numbers network c.args.alphabets.now c.requires.alphabets in
    rw (inner, numbers) (numbers_in_range cs ps (device_group_pairs network) are)

pub new-requires-clause-table : goal.new-requires-clause-table
new-requires-clause-table c =
    let network = c.args.groups.now in
    let cs : List (List ℕ) = alphabet_of level.Device network in
    let ps : List (List ℕ) = alphabet_of level.Group network in
    let inner : c.count_of-inner.result ≡ length cs = c.count_of-inner.ensures.count ∙ ap length c.requires.alphabets.devices in
    let outer : c.count_of-outer.result ≡ length ps = c.count_of-outer.ensures.count ∙ ap length c.requires.alphabets.groups in
    let cs_ascend : IsAscending cs = rw (← c.requires.alphabets.devices) c.count_of-inner.ensures.ascending in
    let ps_ascend : IsAscending ps = rw (← c.requires.alphabets.groups) c.count_of-outer.ensures.ascending in
    let are = device_group_are_pairs network c.requires.once cs_ascend ps_ascend in
    let numbers : c.as_slice.result.now ≡ map (numbered cs ps) (device_group_pairs network) =
    c.as_slice.ensures.value ∙ c.in_ok-pairs.ensures ∙ device_group_numbers network c.args.alphabets.now c.requires.alphabets in
    rw (inner, outer, numbers) (parents_in_range cs ps (device_group_pairs network) are)

pub returns : goal.returns
returns c =
    let network = c.args.groups.now in
    let cs : List (List ℕ) = alphabet_of level.Device network in
    let ps : List (List ℕ) = alphabet_of level.Group network in
    let inner : c.count_of-inner.result ≡ length cs = c.count_of-inner.ensures.count ∙ ap length c.requires.alphabets.devices in
    let outer : c.count_of-outer.result ≡ length ps = c.count_of-outer.ensures.count ∙ ap length c.requires.alphabets.groups in
    let cs_ascend : IsAscending cs = rw (← c.requires.alphabets.devices) c.count_of-inner.ensures.ascending in
    let ps_ascend : IsAscending ps = rw (← c.requires.alphabets.groups) c.count_of-outer.ensures.ascending in
    let are = device_group_are_pairs network c.requires.once cs_ascend ps_ascend in
    let numbers : c.as_slice.result.now ≡ map (numbered cs ps) (device_group_pairs network) =
    c.as_slice.ensures.value ∙ c.in_ok-pairs.ensures ∙ device_group_numbers network c.args.alphabets.now c.requires.alphabets in
    let table : with_entries (replicate c.count_of-inner.result 0) c.as_slice.result.now ≡ parent_table cs ps (device_group_pairs network) = rw (inner, numbers) refl in
    both_of_ok c.new.result _ _ _
    (λ made outer_is inner_is. contains_as_told level.Device level.Group network (device_group_pairs network) are (device_lies_in_group network) cs_ascend ps_ascend made (rw table at outer_is) (rw (table, outer) at inner_is))
    c.new.ensures.outer c.new.ensures.inner
