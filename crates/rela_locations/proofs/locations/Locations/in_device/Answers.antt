use Rattle.rela_names.specs.declared.level.Level.TheVariants as levels
use Rattle.rela_locations.specs.Network.{alphabet_of}
use Rattle.rela_locations.specs.Numbered.{network_of}
use Rattle.rela_locations.proofs.Indexes.{once_when_ascending}
use Rattle.rela_locations.proofs.MemberLaws.{members_itself, members_inside, unknown_told}
use Rattle.rela_locations.proofs.locations.Locations.in_device.Goals as goal

pub returns-in-Interface-clause-members : goal.returns-in-Interface-clause-members
returns-in-Interface-clause-members c =
    rw (c.in-Interface.is, ← c.self.view_is)
    (members_inside levels.Interface levels.Device (network_of c.self.inside.alphabets c.self.inside.groups.items) c.self.inside.tables.interfaces_in_devices c.self.inside.alphabets.devices c.args.name.now c.inside.result
    c.self.invariant.are_tables.interfaces_in_devices c.self.invariant.are_alphabets.devices (rw c.as_slice-lists.ensures.value at c.inside.ensures.members) c.inside.ensures.known)

pub returns-in-Interface-clause-unknown : goal.returns-in-Interface-clause-unknown
returns-in-Interface-clause-unknown c =
    rw (c.in-Interface.is, ← c.self.view_is)
    (unknown_told levels.Device (network_of c.self.inside.alphabets c.self.inside.groups.items) c.self.inside.alphabets.devices c.args.name.now c.inside.result c.self.invariant.are_alphabets.devices c.inside.ensures.unknown)

pub returns-in-Device-clause-members : goal.returns-in-Device-clause-members
returns-in-Device-clause-members c =
    let network = network_of c.self.inside.alphabets c.self.inside.groups.items in
    let once = once_when_ascending (alphabet_of levels.Device network) c.self.invariant.are_tables.interfaces_in_devices.outer_ascend in
    rw (c.in-Device.is, ← c.self.view_is)
    (members_itself levels.Device network c.self.inside.alphabets.devices c.args.name.now c.itself.result once c.self.invariant.are_alphabets.devices c.itself.ensures.members c.itself.ensures.known)

pub returns-in-Device-clause-unknown : goal.returns-in-Device-clause-unknown
returns-in-Device-clause-unknown c =
    rw (c.in-Device.is, ← c.self.view_is)
    (unknown_told levels.Device (network_of c.self.inside.alphabets c.self.inside.groups.items) c.self.inside.alphabets.devices c.args.name.now c.itself.result c.self.invariant.are_alphabets.devices c.itself.ensures.unknown)
