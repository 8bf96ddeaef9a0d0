-- What a plan asks of a certificate that lists rows of it.
use Rattle.std.specs.Prelude.{◌≡◌, ◌≢◌, ℕ, ◌<◌, ◌^◌, Option, None, Some, IsSome, List, [], ◌∷◌, ◌++◌, length, map, codes, All, ⊤}
use Rattle.std.specs.List.{AllPairs, slice_get, slice_index_or}
use Rattle.rela_names.specs.Name.{IsName}
use Rattle.rela_flows.specs.declared.planning.PlannedRow.{PlannedRow}
use Rattle.rela_flows.specs.declared.planning.PlannedRow.TheVariants.{Selected, Unselected}

-- a check: its name, how many complement blocks a row of it has, and the numbers that the symbols of a
-- complement block and of an images block are below
pub record Shape : Type 0 where
  pub name : List ℕ
  pub complements : ℕ
  pub path_symbols : ℕ
  pub symbols : ℕ

-- the planned rows, the names of the flows, and the checks
pub record Layout : Type 0 where
  pub planned : List PlannedRow
  pub flows : List (List ℕ)
  pub checks : List Shape

-- the row names a flow and a check, or a flow alone
abbrev pub IsNamed : ℕ → ℕ → PlannedRow → Type 0
IsNamed flows checks (Selected flow check) = (flow < flows) × (check < checks)
IsNamed flows checks (Unselected flow) = ⊤

abbrev pub check_names : List Shape → List (List ℕ)
check_names checks = map (λ c. c.name) checks

-- symbols are numbers of 32 bits
abbrev pub HasBounds : Shape → Type 0
HasBounds c = (c.path_symbols < 2 ^ 32) × (c.symbols < 2 ^ 32)

-- the rows differ and name flows and checks; the flows have names that differ, and so have the checks
pub record IsLayout (l : Layout) : Type 0 where
  pub rows_differ : AllPairs (λ a b. a ≢ b) l.planned
  pub named : All (IsNamed (length l.flows) (length l.checks)) l.planned
  pub flows_named : All IsName l.flows
  pub flows_differ : AllPairs (λ a b. a ≢ b) l.flows
  pub checks_named : All IsName (check_names l.checks)
  pub checks_differ : AllPairs (λ a b. a ≢ b) (check_names l.checks)
  pub bounds : All HasBounds l.checks

-- what the check of a planned row asks
abbrev pub shape_of : List Shape → Option PlannedRow → Option Shape
shape_of checks None = None
shape_of checks (Some (Selected flow check)) = slice_get checks check
shape_of checks (Some (Unselected flow)) = None

-- what the check of the row at this place asks; no row there, or one without a check, has none
unfoldable pub shape_at : Layout → ℕ → Option Shape
shape_at l place = shape_of l.checks (slice_get l.planned place)

-- `row`, the name of the flow and that of the check, with a blank between two
abbrev pub title_of : Layout → Option PlannedRow → List ℕ
title_of l None = []
title_of l (Some (Selected flow check)) =
    codes "row " ++ (slice_index_or l.flows flow []
    ++ 32 ∷ slice_index_or (check_names l.checks) check [])
title_of l (Some (Unselected flow)) = []

-- the line that names the row at this place
unfoldable pub row_line : Layout → ℕ → List ℕ
row_line l place = title_of l (slice_get l.planned place)

-- the row at this place has a check, and this line names it
pub record IsRowLine (l : Layout) (place : ℕ) (line : List ℕ) : Type 0 where
  pub has_check : IsSome (shape_at l place)
  pub named : line ≡ row_line l place
