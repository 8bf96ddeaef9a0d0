-- What is kept of checks while the rows of a certificate are judged.
use Rattle.std.specs.Prelude.{◌≡◌, ℕ, ◌<◌, ◌==◌, Bool, Option, None, Some, List, [], length, slice_get}
use Rattle.std.specs.HashMap.{HashMap, get}
use Rattle.rela_certfile.specs.declared.rows.ListedRow.{ListedRow}
use Rattle.rela_certfile.specs.declared.rows.Step.{Step}
use Rattle.rela_translate.specs.Checked.{Checked}
use Rattle.rela_cert.specs.CheckRelations.{AreCheckParts, AreCheckRelations}
use Rattle.rela_cert.specs.RowForms.{AreMetForms}
use Rattle.rela_cert.specs.Subject.{Subject}
use Rattle.rela_cert.specs.declared.kept_checks.KeptCheck.{KeptCheck}

-- the complement blocks of the row, if there is one
abbrev pub complements_of_row : Option ListedRow → List (List Step)
complements_of_row None = []
complements_of_row (Some row) = row.complements

-- what is kept is of the check, and has the number of one of so many listed rows
pub record IsKept (count locations : ℕ) (check : Checked) (kept : KeptCheck) : Type 0 where
  pub row : kept.row < count
  pub parts : AreCheckParts check locations kept.parts
  pub relations : AreCheckRelations check locations kept.parts.blocks kept.relations

-- and its forms have shapes of flows that meet the check; `names` are the locations of the check's level
pub record IsKeptWithForms (count : ℕ) (names : List (List ℕ)) (check : Checked)
    (kept : KeptCheck) : Type 0 where
  pub relations : IsKept count (length names) check kept
  pub met : AreMetForms names check kept.parts.blocks kept.met

-- whether two numbers are equal
abbrev pub same_number : ℕ → ℕ → Bool
same_number x y = x == y

-- by the number of a check, what is kept of it
abbrev pub AreKept : {S : Type 0} → Subject → ℕ → HashMap ℕ KeptCheck S → Type 0
AreKept s count kept = (number : ℕ) (one : KeptCheck) (check : Checked) →
    get same_number kept number ≡ Some one → slice_get s.checks number ≡ Some check →
    IsKeptWithForms count s.names check one
