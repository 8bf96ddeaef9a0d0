-- What the four inputs of a check give: a report, or the first refusal in the order in which they are read.
use Rattle.std.specs.Prelude.{ℕ, List, Option, Result}
use Rattle.rela_change_report.specs.Reports.{Reports}
use Rattle.rela_inputs.specs.Answer.{Answer}
use Rattle.rela_inputs.specs.Inputs.{BytesOf}
use Rattle.rela_inputs.specs.Loaded.{Loads}
use Rattle.rela_inputs.specs.declared.refusal.Input.TheVariants.{Locations, Before, After, Spec}
use Rattle.rela_inputs.specs.declared.refusal.Refusal.{Refusal}
use Rattle.rela_io.specs.Held.{FilesByName}
use Rattle.rela_snapshot.specs.Steps.{◌>>=◌}

-- from steps that give the bytes of each input
unfoldable pub ReportsBy : (before after locations spec : Result (List ℕ) Refusal → Type 0) →
    (states : ℕ) → Result Answer Refusal → Type 0
ReportsBy before after locations spec states = do
  loaded ← Loads before after locations spec
  Reports states loaded

-- from the files of these names
abbrev pub Checks : Option FilesByName → (before after locations spec : List ℕ) → ℕ →
    Result Answer Refusal → Type 0
Checks holds before after locations spec states =
    ReportsBy (BytesOf holds before Before) (BytesOf holds after After)
    (BytesOf holds locations Locations) (BytesOf holds spec Spec) states
