use Rattle.rela_tables.proofs.Places.{is_place, found_within}
use Rattle.rela_tables.proofs.symbols.find_interface.Goals as goal

pub returns-clause-place : goal.returns-clause-place
returns-clause-place c = is_place _ _ _ c.interface.ensures.found

pub returns-clause-within : goal.returns-clause-within
returns-clause-within c = found_within _ _ _ c.interface.ensures.found
