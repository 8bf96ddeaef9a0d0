use Rattle.rela_snapshot.specs.Interfaces.{interfaces_in}
use Rattle.rela_snapshot.proofs.Places.{is_place, found_within}
use Rattle.rela_snapshot.proofs.listing.interface_at.Goals as goal

pub returns-clause-place : goal.returns-clause-place
unfolding interfaces_in
returns-clause-place c = is_place _ _ _ c.interface.ensures.found

pub returns-clause-within : goal.returns-clause-within
unfolding interfaces_in
returns-clause-within c = found_within _ _ _ c.interface.ensures.found
