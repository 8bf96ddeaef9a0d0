use Rattle.std.proofs.Common.{refl}
use Rattle.rela_locations.proofs.Indexes.{once_when_ascending}
use Rattle.rela_locations.proofs.NameIndexes.{found_where_it_stands}
use Rattle.rela_locations.proofs.name_index.NameIndex.find_near.Goals as goal

pub returns-then-is_name_of-clause-found : goal.returns-then-is_name_of-clause-found
returns-then-is_name_of-clause-found c =
    let once = once_when_ascending _ (rw c.self.view_is at c.self.invariant.ascending) in
    found_where_it_stands c.args.self.now c.args.name.now c.args.guess _ once (rw (← c.self.view_is) (c.is_name_of.ensures c.if-is_name_of.true)) refl
