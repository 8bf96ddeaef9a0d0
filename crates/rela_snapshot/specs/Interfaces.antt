-- The interfaces of a network.
use Rattle.std.specs.Prelude.{ℕ, List}
use Rattle.rela_names.specs.declared.level.Level.TheVariants.{Interface}
use Rattle.rela_locations.specs.Network.{Network, alphabet_of}

-- the names of the interfaces, ascending by bytes: the place of each is its symbol
unfoldable pub interfaces_in : Network → List (List ℕ)
interfaces_in network = alphabet_of Interface network
