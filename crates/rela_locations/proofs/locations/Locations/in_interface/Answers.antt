use Rattle.rela_names.specs.declared.level.Level.TheVariants as levels
use Rattle.rela_locations.specs.Network.{alphabet_of}
use Rattle.rela_locations.specs.Numbered.{network_of}
use Rattle.rela_locations.proofs.Indexes.{once_when_ascending}
use Rattle.rela_locations.proofs.MemberLaws.{members_itself, unknown_told}
use Rattle.rela_locations.proofs.locations.Locations.in_interface.Goals as goal

pub returns-in-Interface-clause-members : goal.returns-in-Interface-clause-members
returns-in-Interface-clause-members c =
    let network = network_of c.self.inside.alphabets c.self.inside.groups.items in
    let once = once_when_ascending (alphabet_of levels.Interface network) c.self.invariant.are_tables.interfaces_in_devices.inner_ascend in
    rw (c.in-Interface.is, ← c.self.view_is)
    (members_itself levels.Interface network c.self.inside.alphabets.interfaces c.args.name.now c.itself.result once c.self.invariant.are_alphabets.interfaces c.itself.ensures.members c.itself.ensures.known)

pub returns-in-Interface-clause-unknown : goal.returns-in-Interface-clause-unknown
returns-in-Interface-clause-unknown c =
    rw (c.in-Interface.is, ← c.self.view_is)
    (unknown_told levels.Interface (network_of c.self.inside.alphabets c.self.inside.groups.items) c.self.inside.alphabets.interfaces c.args.name.now c.itself.result c.self.invariant.are_alphabets.interfaces c.itself.ensures.unknown)
