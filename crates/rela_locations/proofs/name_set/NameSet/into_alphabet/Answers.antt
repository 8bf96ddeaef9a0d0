use Rattle.std.proofs.Common.{◌≡◌, [], inl, inr, arith}
use Rattle.std.proofs.lemmas.Grind.{common_steps}
use Rattle.rela_locations.proofs.NameOrder.{ascending_from_ordered}
use Rattle.rela_locations.specs.Names.{AreLocationNames}
use Rattle.rela_locations.proofs.name_set.NameSet.into_alphabet.Goals as goal

pub new-requires-2 : goal.new-requires-2
new-requires-2 c =
    let rising = c.self.inside.rising.items in
    let mixed = c.self.inside.mixed.keys in
    let none : rising ≡ [] = elim c.self.invariant.2 [ inl none ↦ none | inr none ↦ absurd (grind (arith, common_steps)) ] in
    let same : c.in_ok-names.names.items ≡ mixed = grind (arith, common_steps) in
    let names : AreLocationNames mixed = rw none at c.self.invariant.0 in
    rw same (record {
      location_names = names.location_names;
      ascending = ascending_from_ordered _ c.into_iter.ensures.into_iter_gives.4;
      few = names.few;
    })
