-- Rule 64: the starts. A row is the place of the start.
use Rattle.std.specs.Prelude.{ℕ, ◌+◌, List, [], ◌∷◌, Some, Result, Ok}
use Rattle.serde_json.specs.Data.{Data}
use Rattle.rela_json.specs.declared.error.LoadError.{LoadError}
use Rattle.rela_json.specs.Results.{◌>>=◌}
use Rattle.rela_names.specs.declared.level.Level.TheVariants.{Interface}
use Rattle.rela_locations.specs.Network.{Network}
use Rattle.rela_json.specs.Fields.{string_of}
use Rattle.rela_tables.specs.Entries.{symbol_of}

unfoldable pub start_of : Network → ℕ → Data → Result ℕ LoadError
start_of network row d = do
  name ← string_of 64 row (Some d)
  symbol_of Interface network row name

-- the starts from a place on
abbrev pub starts_from : Network → ℕ → List Data → Result (List ℕ) LoadError
starts_from network row [] = Ok []
starts_from network row (d ∷ ds) = do
  start ← start_of network row d
  starts ← starts_from network (row + 1) ds
  Ok (start ∷ starts)
