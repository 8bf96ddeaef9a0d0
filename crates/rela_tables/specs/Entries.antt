-- The interface or the device of a name, and the numbers of the rules.
use Rattle.std.specs.Prelude.{ℕ, List, Result}
use Rattle.rela_json.specs.declared.error.LoadError.{LoadError}
use Rattle.rela_json.specs.declared.error.LoadError.TheVariants.{UnknownLocation}
use Rattle.rela_json.specs.Results.{ok_or}
use Rattle.rela_names.specs.declared.level.Level.{Level}
use Rattle.rela_locations.specs.Network.{Network, alphabet_of}
use Rattle.rela_snapshot.specs.Names.{place_of}

-- the symbol of the location of this name
unfoldable pub symbol_of : Level → Network → ℕ → List ℕ → Result ℕ LoadError
symbol_of level network row name = ok_or (UnknownLocation row)
    (place_of (alphabet_of level network) name)
