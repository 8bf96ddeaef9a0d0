use Rattle.std.proofs.Common.{refl}
use Rattle.rela_locations.proofs.Indexes.{once_when_ascending}
use Rattle.rela_locations.proofs.NameIndexes.{found_where_it_stands}
use Rattle.rela_locations.proofs.name_index.NameIndex.find.Goals as goal

pub returns-in-Some-clause-found : goal.returns-in-Some-clause-found
returns-in-Some-clause-found c =
    let once = once_when_ascending _ (rw c.self.view_is at c.self.invariant.ascending) in
    found_where_it_stands c.args.self.now c.args.name.now c.in-Some.symbol _ once (rw (← c.self.view_is) c.in-Some.ensures) refl
