use Rattle.rela_names.specs.declared.level.Level.TheVariants.{Device}
use Rattle.rela_locations.specs.Network.{alphabet_of}
use Rattle.rela_tables.proofs.Places.{is_place, found_within}
use Rattle.rela_tables.proofs.symbols.find_device.Goals as goal

pub returns-clause-place : goal.returns-clause-place
returns-clause-place c = is_place (alphabet_of Device c.args.locations.now) c.args.name.now c.find.result (rw c.alphabet.ensures at c.find.ensures.found)

pub returns-clause-within : goal.returns-clause-within
returns-clause-within c = found_within (alphabet_of Device c.args.locations.now) c.args.name.now c.find.result (rw c.alphabet.ensures at c.find.ensures.found)
