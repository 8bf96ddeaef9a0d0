use Rattle.std.proofs.Common.{length, ap, ◌∙◌}
use Rattle.rela_names.specs.declared.level.Level.TheVariants as levels
use Rattle.rela_locations.specs.Network.{alphabet_of}
use Rattle.rela_locations.specs.Numbered.{network_of}
use Rattle.rela_locations.proofs.Indexes.{once_when_ascending}
use Rattle.rela_locations.proofs.MemberLaws.{inner_length, numbers_in_range, devices_with_tag, interfaces_with_tag}
use Rattle.rela_locations.proofs.locations.Locations.in_tagged.Goals as goal

pub interfaces_with-requires : goal.interfaces_with-requires
interfaces_with-requires c =
    let network = network_of c.self.inside.alphabets c.self.inside.groups.items in
    let tables = c.self.invariant.are_tables in
    let once = once_when_ascending (alphabet_of levels.Device network) tables.interfaces_in_devices.outer_ascend in
    numbers_in_range network c.self.inside.tables.tagged tables.are_tagged c.args.name.now (length c.as_slice-lists.result.now) once
    (ap length c.as_slice-lists.ensures.value ∙ inner_length levels.Interface levels.Device network c.self.inside.tables.interfaces_in_devices tables.interfaces_in_devices)

pub returns-in-Interface-clause-members : goal.returns-in-Interface-clause-members
returns-in-Interface-clause-members c =
    let network = network_of c.self.inside.alphabets c.self.inside.groups.items in
    let tables = c.self.invariant.are_tables in
    rw (c.in-Interface.is, ← c.self.view_is)
    (interfaces_with_tag network c.self.inside.tables.tagged tables.are_tagged c.args.name.now c.interfaces_with.result c.self.inside.tables.interfaces_in_devices
    tables.interfaces_in_devices tables.devices_once c.interfaces_with.ensures.rising (rw c.as_slice-lists.ensures.value at c.interfaces_with.ensures.members))

pub returns-in-Device-clause-members : goal.returns-in-Device-clause-members
returns-in-Device-clause-members c =
    let network = network_of c.self.inside.alphabets c.self.inside.groups.items in
    let tables = c.self.invariant.are_tables in
    let once = once_when_ascending (alphabet_of levels.Device network) tables.interfaces_in_devices.outer_ascend in
    rw (c.in-Device.is, ← c.self.view_is)
    (devices_with_tag network c.self.inside.tables.tagged tables.are_tagged c.args.name.now c.devices_with.result once c.devices_with.ensures.rising c.devices_with.ensures.members)
