-- The parts of an entry of a JSON file, or the rule that it breaks in a row.
use Rattle.std.specs.Prelude.{ℕ, List, [], ◌∷◌, length, nat_lt, if◌then◌else◌, Option, Some, option_and_then, Result, Ok, Err}
use Rattle.serde_json.specs.Data.{Data}
use Rattle.rela_json.specs.declared.error.LoadError.{LoadError}
use Rattle.rela_json.specs.declared.error.LoadError.TheVariants.{WrongShape, TooMany}
use Rattle.rela_json.specs.Parts.{member_of, text_of, number_of, items_of}
use Rattle.rela_json.specs.Results.{◌>>=◌, ok_or}

-- an object's member, if it has one of that name
unfoldable pub part_of : List ℕ → ℕ → ℕ → Data → Result (Option Data) LoadError
part_of name rule row d = ok_or (WrongShape rule row) (member_of name d)

-- a string, an array and a whole number that have to be there
unfoldable pub string_of : ℕ → ℕ → Option Data → Result (List ℕ) LoadError
string_of rule row o = ok_or (WrongShape rule row) (option_and_then text_of o)

unfoldable pub entries_of : ℕ → ℕ → Option Data → Result (List Data) LoadError
entries_of rule row o = ok_or (WrongShape rule row) (option_and_then items_of o)

unfoldable pub whole_number_of : ℕ → ℕ → Option Data → Result ℕ LoadError
whole_number_of rule row o = ok_or (WrongShape rule row) (option_and_then number_of o)

-- an array with no more than so many entries
unfoldable pub few_entries_of : ℕ → ℕ → ℕ → Option Data → Result (List Data) LoadError
few_entries_of most rule row o = do
  ds ← entries_of rule row o
  if nat_lt most (length ds) then Err (TooMany row) else Ok ds

abbrev pub pair_of : ℕ → ℕ → List Data → Result (Data × Data) LoadError
pair_of rule row [] = Err (WrongShape rule row)
pair_of rule row (x ∷ []) = Err (WrongShape rule row)
pair_of rule row (x ∷ y ∷ []) = Ok (x, y)
pair_of rule row (x ∷ y ∷ z ∷ ds) = Err (WrongShape rule row)

-- an array of just two entries
unfoldable pub two_entries_of : ℕ → ℕ → Data → Result (Data × Data) LoadError
two_entries_of rule row d = do
  ds ← entries_of rule row (Some d)
  pair_of rule row ds
