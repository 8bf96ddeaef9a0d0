-- Names in the order in which they came.
use Rattle.std.specs.Prelude.{ℕ, ◌≤◌, Bool, List, ◌∷◌, [], ◌++◌, length, Option, position, if◌then◌else◌}
use Rattle.std.specs.List.{list_any, IsDistinct}
use Rattle.std.specs.Str.{bytes_eq}

abbrev pub has_name : List (List ℕ) → List ℕ → Bool
has_name names name = list_any (bytes_eq name) names

-- the place of a name
abbrev pub place_of : List (List ℕ) → List ℕ → Option ℕ
place_of names name = position (bytes_eq name) names

-- the names with one more, unless they have it
abbrev pub with_name : List (List ℕ) → List ℕ → List (List ℕ)
with_name names name = if has_name names name then names else names ++ name ∷ []

-- no name comes twice
abbrev pub AreDistinct : List (List ℕ) → Type 0
AreDistinct names = IsDistinct bytes_eq names

-- at most 10,000, and no name twice
pub record AreTableNames (names : List (List ℕ)) : Type 0 where
  pub few : length names ≤ 10000
  pub distinct : AreDistinct names
