use Rattle.std.proofs.Common.{◌≡◌, ◌<◌, ◌++◌, All, drop, map}
use Rattle.rela_locations.specs.Network.{alphabet_of}
use Rattle.rela_names.specs.Alphabet.{path_symbols}
use Rattle.rela_claims.specs.Classes.{listing, listing_of}
use Rattle.rela_claims.specs.Written.{class_of}
use Rattle.rela_claims.proofs.listing.sets.Given as goal

abbrev pub invariant-loop-class : goal.invariant-loop-class
invariant-loop-class l = record {
  listed : map listing_of l.sets.items ++ map (λ c. listing (record { network = l.locations; level = l.level }) (class_of c)) (drop l.class-index l.table.keys)
      ≡ map (λ c. listing (record { network = l.locations; level = l.level }) (class_of c)) l.table.keys;
  below : All (λ set. All (λ s. s < path_symbols (alphabet_of l.level l.locations)) set.members) l.sets.items;
}
