-- What is found of a check on one flow, and held for each flow that looks the same at the check's level.
use Rattle.std.specs.Prelude.{◌≡◌, ℕ, ◌<◌, ◌==◌, ◌&&◌, Bool, Option, None, Some, List, length, slice_get}
use Rattle.std.specs.HashMap.{HashMap, get}
use Rattle.rela_blocks.specs.Scenes.{paths_of}
use Rattle.rela_build.specs.PathSets.{Paths}
use Rattle.rela_certfile.specs.Listed.{HasShape}
use Rattle.rela_certfile.specs.declared.rows.ListedRow.{ListedRow}
use Rattle.rela_flows.specs.declared.planning.PlannedRow.{PlannedRow}
use Rattle.rela_plan.specs.Alike.{look_of}
use Rattle.rela_snapshot.specs.declared.pairing.FlowPair.{FlowPair}
use Rattle.rela_translate.specs.Checked.{Checked}
use Rattle.rela_translate.specs.Verdict.{Meets}
use Rattle.rela_cert.specs.Certified.{AreBlocksMade, IsExcused, IsRowMade, MayBeLeftOut}
use Rattle.rela_cert.specs.Subject.{Subject, flow_of, shape_of}

-- Where the two flows look the same at the check's level, what P says of the check and the paths of the other flow, it
-- says of those of the flow. `names` are the locations of the level.
abbrev pub CarriesOver : Checked → FlowPair → FlowPair → List (List ℕ) → (Paths → Type 0) → Type 0
CarriesOver check pair other names P =
    look_of check.level pair ≡ look_of check.level other →
    P (paths_of check.level names other.before other.after) →
    P (paths_of check.level names pair.before pair.after)

-- the check is met by the paths
abbrev pub IsMetBy : ℕ → Checked → Paths → Type 0
IsMetBy locations check paths = Meets check locations paths.pre paths.post

-- P holds of the check and the paths of the flow of these numbers
abbrev pub HoldsOf : Subject → ℕ → ℕ → (Checked → Paths → Type 0) → Type 0
HoldsOf s flow number P =
    (pair : FlowPair) × (check : Checked) × (slice_get s.pairs flow ≡ Some pair)
    × (slice_get s.checks number ≡ Some check) × P check (flow_of s pair check)

-- whether two pairs of numbers are equal
abbrev pub same_numbers : ℕ × ℕ → ℕ × ℕ → Bool
same_numbers x y = (x.0 == y.0) && (x.1 == y.1)

-- By the numbers of a flow and a check, the number of one of so many listed rows. The check is met by the paths of the
-- flow.
abbrev pub AreKnownMet : {S : Type 0} → Subject → ℕ → HashMap (ℕ × ℕ) ℕ S → Type 0
AreKnownMet s count met = (flow number row : ℕ) →
    get same_numbers met (flow, number) ≡ Some row →
    (row < count) × HoldsOf s flow number (IsMetBy (length s.names))

-- the blocks of the row are as they are made for the check and the paths, and the check is met
pub record IsRowFound (locations : ℕ) (check : Checked) (paths : Paths)
    (row : ListedRow) : Type 0 where
  pub shape : HasShape (shape_of locations check) row
  pub met : IsMetBy locations check paths
  pub made : AreBlocksMade locations row check paths

-- a row that is to be listed for the check and the paths; or it is excused that there is none
abbrev pub IsFoundFor : ℕ → ℕ → Option ListedRow → Checked → Paths → Type 0
IsFoundFor locations limit None check paths = IsExcused locations limit check paths
IsFoundFor locations limit (Some row) check paths = IsRowFound locations check paths row

-- by the numbers of a flow and a check, what is found for them
abbrev pub AreFoundRows : {S : Type 0} → Subject → ℕ → HashMap (ℕ × ℕ) (Option ListedRow) S → Type 0
AreFoundRows s limit kept = (flow number : ℕ) (found : Option ListedRow) →
    get same_numbers kept (flow, number) ≡ Some found →
    HoldsOf s flow number (IsFoundFor (length s.names) limit found)

-- the row with this place for its own
abbrev pub row_at_place : ℕ → ListedRow → ListedRow
row_at_place place row =
    record { place = place; complements = row.complements; images = row.images }

-- what is found for the row that is planned at this place: it may be listed, or left out
abbrev pub IsFoundAt : Subject → List PlannedRow → ℕ → ℕ → Option ListedRow → Type 0
IsFoundAt s planned limit place None = MayBeLeftOut s planned limit place
IsFoundAt s planned limit place (Some row) = IsRowMade s planned place row
