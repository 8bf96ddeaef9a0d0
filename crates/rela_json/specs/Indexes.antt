-- A JSON array of indexes.
use Rattle.std.specs.Prelude.{ℕ, List, Result, Ok, Err, nat_lt, if◌then◌else◌}
use Rattle.serde_json.specs.Data.{Data}
use Rattle.rela_json.specs.declared.error.ListError.{ListError}
use Rattle.rela_json.specs.declared.error.ListError.TheVariants.{Shape, Index}
use Rattle.rela_json.specs.Parts.{number_of, items_of}
use Rattle.rela_json.specs.Results.{◌>>=◌, ok_or, try_map}

-- a whole number below the bound
abbrev pub index_of : ℕ → Data → Result ℕ ListError
index_of below d = do
  n ← ok_or Shape (number_of d)
  if nat_lt n below then Ok n else Err Index

-- the entries of an array as indexes, or the first fault in order
abbrev pub indexes_of : ℕ → Data → Result (List ℕ) ListError
indexes_of below d = do
  ds ← ok_or Shape (items_of d)
  try_map (index_of below) ds
