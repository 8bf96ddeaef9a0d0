-- The location names of one level.
use Rattle.std.specs.Prelude.{ℕ, ◌+◌, ◌≤◌, List, length}
use Rattle.std.specs.List.{All}
use Rattle.rela_names.specs.Name.{IsLocationName, IsAscending}

-- at most 100,000 location names, strictly ascending by bytes
pub record IsAlphabet (names : List (List ℕ)) : Type 0 where
  pub location_names : All IsLocationName names
  pub ascending : IsAscending names
  pub few : length names ≤ 100000

-- the locations, `drop` and `loop`
abbrev pub path_symbols : List (List ℕ) → ℕ
path_symbols names = length names + 2
