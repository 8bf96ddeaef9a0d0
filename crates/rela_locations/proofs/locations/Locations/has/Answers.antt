use Rattle.std.proofs.Common.{◌∙◌}
use Rattle.rela_names.specs.declared.level.Level.TheVariants as levels
use Rattle.rela_locations.specs.Numbered.{network_of}
use Rattle.rela_locations.proofs.MemberLaws.{name_known}
use Rattle.rela_locations.proofs.locations.Locations.has.Goals as goal

pub returns-in-Interface : goal.returns-in-Interface
returns-in-Interface c =
    rw (c.in-Interface.is, ← c.self.view_is)
    (c.has.ensures ∙ name_known levels.Interface (network_of c.self.inside.alphabets c.self.inside.groups.items) c.self.inside.alphabets.interfaces c.args.name.now c.self.invariant.are_alphabets.interfaces)

pub returns-in-Device : goal.returns-in-Device
returns-in-Device c =
    rw (c.in-Device.is, ← c.self.view_is)
    (c.has-in-Device.ensures ∙ name_known levels.Device (network_of c.self.inside.alphabets c.self.inside.groups.items) c.self.inside.alphabets.devices c.args.name.now c.self.invariant.are_alphabets.devices)

pub returns-in-Group : goal.returns-in-Group
returns-in-Group c =
    rw (c.in-Group.is, ← c.self.view_is)
    (c.has-in-Group.ensures ∙ name_known levels.Group (network_of c.self.inside.alphabets c.self.inside.groups.items) c.self.inside.alphabets.groups c.args.name.now c.self.invariant.are_alphabets.groups)
