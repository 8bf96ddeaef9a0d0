-- What the two inputs of `zone` and a name give: the text of the zone of the check that has the name, or the first
-- refusal in the order in which they are read, and last that no check has it.
use Rattle.std.specs.Prelude.{◌≡◌, ℕ, ◌⊎◌, List, codes, find, length, Option, None, Some, Result, Ok, Err}
use Rattle.std.specs.Str.{bytes_eq}
use Rattle.rela_engine.specs.Zone.{IsZoneText, ZoneMustPassLimit, ZonePassesLimit}
use Rattle.rela_io.specs.Held.{FilesByName}
use Rattle.rela_locations.specs.Network.{Network, alphabet_of}
use Rattle.rela_report.specs.Text.{line}
use Rattle.rela_snapshot.specs.Steps.{Is, ◌>>=◌}
use Rattle.rela_translate.specs.Checked.{Checked as Check}
use Rattle.rela_inputs.specs.Answer.{Answer}
use Rattle.rela_inputs.specs.Inputs.{BytesOf, Gives, ReadsNetwork}
use Rattle.rela_inputs.specs.Specified.{ReadsChecks, Specified}
use Rattle.rela_inputs.specs.declared.refusal.Input.TheVariants.{Locations, Spec, Words}
use Rattle.rela_inputs.specs.declared.refusal.Reason.TheVariants.{UnknownCheck}
use Rattle.rela_inputs.specs.declared.refusal.Refusal.{Refusal}

-- the check of this name among the checks, whose names differ
abbrev pub check_named : List ℕ → List Check → Option Check
check_named name checks = find (λ check. bytes_eq name check.name) checks

-- a check that was found, or that the words name none
abbrev pub or_unknown : Option Check → Result Check Refusal
or_unknown (Some check) = Ok check
or_unknown None = Err (record { input = Words; reason = UnknownCheck })

-- the answer where the limit leaves a zone open
abbrev pub left_open : Answer
left_open = record { text = line (codes "undecided"); status = 3 }

-- The answer is the text of the zone, and the limit doesn't force it to be left open; or it is left open, and the limit
-- licenses that. `names` are the locations of the check's level.
abbrev pub IsZoneAnswer : List (List ℕ) → ℕ → Check → Answer → Type 0
IsZoneAnswer names states check answer =
    ((answer.status ≡ 0) × IsZoneText check names answer.text
    × (¬ ZoneMustPassLimit check (length names) states))
    ⊎ ((answer ≡ left_open) × ZonePassesLimit check (length names) states)

unfoldable pub WritesZone : List (List ℕ) → ℕ → Check → Result Answer Refusal → Type 0
WritesZone names states check r =
    (answer : Answer) × IsZoneAnswer names states check answer × (r ≡ Ok answer)

-- the zone of the check of this name among those that are asked for
unfoldable pub ShowsZone : Network → List ℕ → ℕ → Specified → Result Answer Refusal → Type 0
ShowsZone network name states specified = do
  check ← Is (or_unknown (check_named name specified.checks))
  WritesZone (alphabet_of specified.level network) states check

unfoldable pub Zones : Option FilesByName → (locations spec name : List ℕ) → ℕ →
    Result Answer Refusal → Type 0
Zones holds locations spec name states = do
  network ← Gives (BytesOf holds locations Locations) ReadsNetwork
  specified ← Gives (BytesOf holds spec Spec) (ReadsChecks network)
  ShowsZone network name states specified

-- two answers that are the same, unless one of them leaves the zone open
abbrev pub SameZones : Answer → Answer → Type 0
SameZones x y = (x ≡ y) ⊎ ((x ≡ left_open) ⊎ (y ≡ left_open))
