-- The names of the entries of one kind that a walk has come by, ascending by bytes.
use Rattle.std.specs.Prelude.{ℕ, ◌≤◌, Bool, nat_lt, if◌then◌else◌, List, [], length, fold, Result, Ok, Err, not}
use Rattle.std.specs.BTreeSet.{insert_key}
use Rattle.std.specs.List.{All, list_any}
use Rattle.std.specs.Str.{bytes_eq}
use Rattle.rela_json.specs.declared.error.LoadError.{LoadError}
use Rattle.rela_json.specs.declared.error.LoadError.TheVariants.{TooMany, BadName, ReservedName, RepeatedEntry}
use Rattle.rela_json.specs.Results.{◌>>=◌}
use Rattle.rela_names.specs.Name.{bytes_cmp, is_name, is_reserved, IsLocationName}

-- the names with one more, at its place in the order
abbrev pub with_name : List (List ℕ) → List ℕ → List (List ℕ)
with_name names name = insert_key bytes_cmp names name

-- the names with some more
abbrev pub with_names : List (List ℕ) → List (List ℕ) → List (List ℕ)
with_names names more = fold with_name names more

-- the same names in the order of their bytes
abbrev pub ascending : List (List ℕ) → List (List ℕ)
ascending names = with_names [] names

abbrev pub has_name : List (List ℕ) → List ℕ → Bool
has_name names name = list_any (bytes_eq name) names

-- the row of the next entry counts the earlier ones, of which there may be 99,999
abbrev pub next_row : List (List ℕ) → Result ℕ LoadError
next_row names = if nat_lt (length names) 100000 then Ok (length names)
    else Err (TooMany (length names))

-- these bytes as the name of a location, in that row
abbrev pub location_name : ℕ → List ℕ → Result (List ℕ) LoadError
location_name row bytes =
    if not (is_name bytes) then Err (BadName row)
    else if is_reserved bytes then Err (ReservedName row)
    else Ok bytes

-- the same, where no earlier entry may have the name
abbrev pub new_name : List (List ℕ) → ℕ → List ℕ → Result (List ℕ) LoadError
new_name names row bytes = do
  name ← location_name row bytes
  if has_name names name then Err (RepeatedEntry row) else Ok name

pub record AreLocationNames (names : List (List ℕ)) : Type 0 where
  pub location_names : All IsLocationName names
  pub few : length names ≤ 100000
