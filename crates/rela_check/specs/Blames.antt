-- What the four inputs of a check give where each violated row is to say which alternative of its check's body claimed
-- the source, and where that stands in the text of the specification.
use Rattle.std.specs.Prelude.{◌≡◌, ℕ, Bool, false, true, List, Option, Result, Ok, filter, length}
use Rattle.std.specs.List.{AllZip}
use Rattle.rela_blame.specs.Zones.{IsZoneOf}
use Rattle.rela_io.specs.Held.{FilesByName}
use Rattle.rela_locations.specs.Network.{Network}
use Rattle.rela_report.specs.Blamed.{blamed_text}
use Rattle.rela_report.specs.Status.{is_violated, status_of}
use Rattle.rela_report.specs.declared.rows.ReportRow.{ReportRow}
use Rattle.rela_report.specs.declared.zones.Zone.{Zone}
use Rattle.rela_snapshot.specs.Steps.{◌>>=◌}
use Rattle.rela_snapshot.specs.declared.pairing.FlowPair.{FlowPair}
use Rattle.rela_inputs.specs.Answer.{Answer}
use Rattle.rela_change_report.specs.Reports.{SameReports}
use Rattle.rela_check.specs.Checks.{Checks}
use Rattle.rela_inputs.specs.Inputs.{BytesOf, Gives, ReadsNetwork}
use Rattle.rela_inputs.specs.Loaded.{Loaded, names_of}
use Rattle.rela_inputs.specs.Paired.{GivesPairs}
use Rattle.rela_rows.specs.Rows.{AgreeInRows, AreRowsOf}
use Rattle.rela_inputs.specs.Specifications.{ReadsWritten, Written}
use Rattle.rela_inputs.specs.Specified.{AsksFor, Specified}
use Rattle.rela_inputs.specs.declared.refusal.Input.TheVariants.{After, Before, Locations, Spec}
use Rattle.rela_inputs.specs.declared.refusal.Refusal.{Refusal}

abbrev pub blamed_report : List (List ℕ) → List ReportRow → List Zone → Answer
blamed_report names rows zones = record {
  text = blamed_text names rows zones;
  status = status_of rows;
}

-- the change of these flows over the network, under what is asked for
abbrev pub change_of : Network → List FlowPair → Specified → Loaded
change_of network pairs specified = record { network = network; pairs = pairs; specified = specified }

-- the zones of the violated rows, in their order, by the specification as it is written
abbrev pub AreZonesOf : Written → Loaded → List ReportRow → List Zone → Type 0
AreZonesOf written loaded rows zones =
    AllZip (IsZoneOf written.file written.tokens (length (names_of loaded))
    loaded.specified.checks) (filter is_violated rows) zones

-- the report of the rows of the flows under the checks, with the zones of the violated ones
unfoldable pub ReportsBlamed : ℕ → Written → Loaded → Result Answer Refusal → Type 0
ReportsBlamed states written loaded r =
    (rows : List ReportRow) × (zones : List Zone)
    × AreRowsOf (names_of loaded) states loaded.specified.checks loaded.pairs rows
    × AreZonesOf written loaded rows zones
    × (r ≡ Ok (blamed_report (names_of loaded) rows zones))

-- what the other inputs give over the network
unfoldable pub BlamesOver : Option FilesByName → (before after spec : List ℕ) → ℕ → Network →
    Result Answer Refusal → Type 0
BlamesOver holds before after spec states network = do
  pairs ← GivesPairs network (BytesOf holds before Before) (BytesOf holds after After)
  written ← Gives (BytesOf holds spec Spec) ReadsWritten
  specified ← AsksFor network written.file
  ReportsBlamed states written (change_of network pairs specified)

unfoldable pub Blames : Option FilesByName → (before after locations spec : List ℕ) → ℕ →
    Result Answer Refusal → Type 0
Blames holds before after locations spec states = do
  network ← Gives (BytesOf holds locations Locations) ReadsNetwork
  BlamesOver holds before after spec states network

-- two reports whose rows differ at most where one of them leaves the verdict open
pub record SameBlamed (x y : Answer) : Type 0 where
  pub names : List (List ℕ)
  pub rows : List ReportRow
  pub zones : List Zone
  pub others : List ReportRow
  pub other_zones : List Zone
  pub is_first : x ≡ blamed_report names rows zones
  pub is_second : y ≡ blamed_report names others other_zones
  pub agree : AgreeInRows rows others

-- the report with the zones of violated rows where that is asked for, and else without them
abbrev pub ReportsAs : Bool → Option FilesByName → (before after locations spec : List ℕ) → ℕ →
    Result Answer Refusal → Type 0
ReportsAs false = Checks
ReportsAs true = Blames

abbrev pub SameAs : Bool → Answer → Answer → Type 0
SameAs false = SameReports
SameAs true = SameBlamed
