-- The pairs that were found, however they are looked up.
use Rattle.std.specs.Prelude.{⊤, List}
use Rattle.rela_pairs.specs.Places.{Fits}
use Rattle.rela_pairs.specs.declared.found.Found.{Found}
use Rattle.rela_pairs.specs.declared.found.Found.TheVariants.{Tabled, Hashed}
use Rattle.rela_pairs.specs.declared.pair.Pair.{Pair}

-- the pairs, in the order of their numbers
abbrev pub pairs_of : Found → List Pair
pairs_of (Tabled table) = table.pairs
pairs_of (Hashed pairs) = pairs

-- whether the pair can be looked up
abbrev pub Takes : Found → Pair → Type 0
Takes (Tabled table) x = Fits table.shape x
Takes (Hashed pairs) x = ⊤
