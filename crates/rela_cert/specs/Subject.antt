-- What a certificate speaks of: checks, flows and the locations of a level; and the rows that its text lists.
use Rattle.std.specs.Prelude.{◌≡◌, ◌≢◌, ℕ, ◌<◌, List, Some, All, AllPairs, length, map, slice_get}
use Rattle.rela_blocks.specs.RowBlocks.{symbols_of}
use Rattle.rela_blocks.specs.Scenes.{paths_of}
use Rattle.rela_build.specs.PathSets.{Paths}
use Rattle.rela_certfile.specs.Layout.{Layout, Shape}
use Rattle.rela_certfile.specs.Listed.{AreListed}
use Rattle.rela_certfile.specs.Text.{text_of}
use Rattle.rela_certfile.specs.declared.rows.ListedRow.{ListedRow}
use Rattle.rela_flows.specs.Plan.{Plan}
use Rattle.rela_flows.specs.declared.planning.PlannedRow.{PlannedRow}
use Rattle.rela_flows.specs.declared.planning.PlannedRow.TheVariants.{Selected}
use Rattle.rela_snapshot.specs.PairsLocated.{ArePairsLocated}
use Rattle.rela_snapshot.specs.declared.pairing.FlowPair.{FlowPair}
use Rattle.rela_translate.specs.Checked.{Checked}
use Rattle.rela_translate.specs.Zones.{path_symbols}
use Rattle.rela_cert.specs.Rows.{parts_of}

-- the checks, the flows, and the names of the locations of the checks' level
pub record Subject : Type 0 where
  pub checks : List Checked
  pub pairs : List FlowPair
  pub names : List (List ℕ)

abbrev pub subject : List Checked → List FlowPair → List (List ℕ) → Subject
subject checks pairs names = record { checks = checks; pairs = pairs; names = names }

-- the classes of the check list path symbols
abbrev pub ListsPathSymbols : ℕ → Checked → Type 0
ListsPathSymbols locations check =
    All (λ set. All (λ s. s < path_symbols locations) set.members) check.classes

-- The classes of each check list path symbols, and at its level each node of the flows stands at one of the locations.
-- No two checks have one name, and no two flows.
pub record IsSubject (s : Subject) : Type 0 where
  pub listed : All (ListsPathSymbols (length s.names)) s.checks
  pub located : All (λ check. ArePairsLocated s.names check.level s.pairs) s.checks
  pub checks_differ : AllPairs (λ a b. a ≢ b) (map (λ check. check.name) s.checks)
  pub flows_differ : AllPairs (λ a b. a ≢ b) (map (λ pair. pair.class.name) s.pairs)

-- what a check asks of its rows: a block for each complement in its two images, of path symbols, and one of all its
-- symbols for the images
abbrev pub shape_of : ℕ → Checked → Shape
shape_of locations check = record {
  name = check.name;
  complements = length (parts_of check locations);
  path_symbols = path_symbols locations;
  symbols = symbols_of check locations;
}

-- the planned rows, with the names of the flows and what the checks ask
abbrev pub layout_of : Subject → List PlannedRow → Layout
layout_of s planned = record {
  planned = planned;
  flows = map (λ pair. pair.class.name) s.pairs;
  checks = map (shape_of (length s.names)) s.checks;
}

-- these rows are to be made: each flow with each check that selects it
abbrev pub IsPlan : Subject → List PlannedRow → Type 0
IsPlan s planned =
    Plan (map (λ pair. pair.class) s.pairs) (map (λ check. check.when) s.checks) planned

-- the text is the certificate that lists these rows of the plan
pub record IsCertificate (s : Subject) (planned : List PlannedRow) (rows : List ListedRow)
    (text : List ℕ) : Type 0 where
  pub plan : IsPlan s planned
  pub listed : AreListed (layout_of s planned) rows
  pub whole : text ≡ text_of (layout_of s planned) rows

-- the planned row at this place is of this flow and this check
pub record IsRowOf (s : Subject) (planned : List PlannedRow) (place : ℕ) (pair : FlowPair)
    (check : Checked) : Type 0 where
  pub flow : ℕ
  pub number : ℕ
  pub planned_as : slice_get planned place ≡ Some (Selected flow number)
  pub of_flow : slice_get s.pairs flow ≡ Some pair
  pub of_check : slice_get s.checks number ≡ Some check

-- the paths of the flow at the level of the check
abbrev pub flow_of : Subject → FlowPair → Checked → Paths
flow_of s pair check = paths_of check.level s.names pair.before pair.after

-- P holds of the check and the flow of the planned row at this place
abbrev pub HoldsAt : Subject → List PlannedRow → ℕ → (Checked → Paths → Type 0) → Type 0
HoldsAt s planned place P =
    (pair : FlowPair) × (check : Checked) × IsRowOf s planned place pair check
    × P check (flow_of s pair check)
