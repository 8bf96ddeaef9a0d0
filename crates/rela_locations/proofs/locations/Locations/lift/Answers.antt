use Rattle.std.proofs.Common.{◌<◌, length, sym, ◌∙◌}
use Rattle.rela_names.specs.declared.level.Level.TheVariants as levels
use Rattle.rela_locations.specs.Network.{alphabet_of}
use Rattle.rela_locations.specs.Numbered.{network_of}
use Rattle.rela_locations.proofs.Indexes.{once_when_ascending}
use Rattle.rela_locations.proofs.OwnNames.{own_location}
use Rattle.rela_locations.proofs.TableLaws.{outer_within, outer_told}
use Rattle.rela_locations.proofs.locations.Locations.lift.Goals as goal

pub index-requires : goal.index-requires
index-requires c =
    let within : c.args.interface < length (alphabet_of levels.Interface (network_of c.self.inside.alphabets c.self.inside.groups.items)) = rw c.self.view_is c.requires in
    rw c.self.inside.tables.interfaces_in_devices.outer.ok.0 (outer_within _ _ _ _ c.args.interface c.self.invariant.are_tables.interfaces_in_devices within)

pub index-requires-in-Group : goal.index-requires-in-Group
index-requires-in-Group c =
    let within : c.args.interface < length (alphabet_of levels.Interface (network_of c.self.inside.alphabets c.self.inside.groups.items)) = rw c.self.view_is c.requires in
    rw c.self.inside.tables.interfaces_in_groups.outer.ok.0 (outer_within _ _ _ _ c.args.interface c.self.invariant.are_tables.interfaces_in_groups within)

pub returns-in-Interface-clause-lifted : goal.returns-in-Interface-clause-lifted
returns-in-Interface-clause-lifted c =
    let within : c.args.interface < length (alphabet_of levels.Interface (network_of c.self.inside.alphabets c.self.inside.groups.items)) = rw c.self.view_is c.requires in
    let once = once_when_ascending _ c.self.invariant.are_tables.interfaces_in_devices.inner_ascend in
    let own = own_location levels.Interface (network_of c.self.inside.alphabets c.self.inside.groups.items) c.args.interface once within in
    rw (c.in-Interface.is, ← c.self.view_is) (sym own)

pub returns-in-Device-clause-lifted : goal.returns-in-Device-clause-lifted
returns-in-Device-clause-lifted c =
    let within : c.args.interface < length (alphabet_of levels.Interface (network_of c.self.inside.alphabets c.self.inside.groups.items)) = rw c.self.view_is c.requires in
    let told = outer_told _ _ _ _ c.args.interface c.self.invariant.are_tables.interfaces_in_devices within in
    rw (c.in-Device.is, ← c.self.view_is) (c.index.ensures ∙ told c.index.result.now)

pub returns-in-Device-clause-location : goal.returns-in-Device-clause-location
returns-in-Device-clause-location c =
    let within : c.args.interface < length (alphabet_of levels.Interface (network_of c.self.inside.alphabets c.self.inside.groups.items)) = rw c.self.view_is c.requires in
    let told = outer_told _ _ _ _ c.args.interface c.self.invariant.are_tables.interfaces_in_devices within in
    let lifted = c.index.ensures ∙ told c.index.result.now in
    rw (c.in-Device.is, ← c.self.view_is, lifted) (c.self.invariant.are_tables.interfaces_in_devices.known c.args.interface within)

pub returns-in-Group-clause-lifted : goal.returns-in-Group-clause-lifted
returns-in-Group-clause-lifted c =
    let within : c.args.interface < length (alphabet_of levels.Interface (network_of c.self.inside.alphabets c.self.inside.groups.items)) = rw c.self.view_is c.requires in
    let told = outer_told _ _ _ _ c.args.interface c.self.invariant.are_tables.interfaces_in_groups within in
    rw (c.in-Group.is, ← c.self.view_is) (c.index-in-Group.ensures ∙ told c.index-in-Group.result.now)

pub returns-in-Group-clause-location : goal.returns-in-Group-clause-location
returns-in-Group-clause-location c =
    let within : c.args.interface < length (alphabet_of levels.Interface (network_of c.self.inside.alphabets c.self.inside.groups.items)) = rw c.self.view_is c.requires in
    let told = outer_told _ _ _ _ c.args.interface c.self.invariant.are_tables.interfaces_in_groups within in
    let lifted = c.index-in-Group.ensures ∙ told c.index-in-Group.result.now in
    rw (c.in-Group.is, ← c.self.view_is, lifted) (c.self.invariant.are_tables.interfaces_in_groups.known c.args.interface within)
