-- Checks that ask for the same: they differ in their names and in the flows that they are for, if at all.
use Rattle.std.specs.Prelude.{◌≡◌, ℕ, ◌⊎◌, List, [], ◌∷◌, ◌++◌, slice_get, IsSomeAnd}
use Rattle.std.specs.List.{AllZip}
use Rattle.rela_translate.specs.Checked.{Checked}

pub record AskTheSame (check other : Checked) : Type 0 where
  pub level : check.level ≡ other.level
  pub at_most : check.at_most ≡ other.at_most
  pub classes : check.classes ≡ other.classes
  pub body : check.body ≡ other.body

-- the check of this number among those asked asks for the same
abbrev pub IsAskedAt : List Checked → Checked → ℕ → Type 0
IsAskedAt asked check place = IsSomeAnd (slice_get asked place) (AskTheSame check)

-- for each check the number of one among those asked that asks for the same
abbrev pub AreAskedAt : List Checked → List Checked → List ℕ → Type 0
AreAskedAt asked = AllZip (IsAskedAt asked)

-- the list stayed, or the check came behind it
abbrev pub IsGrown : List Checked → Checked → List Checked → Type 0
IsGrown asked check more = (more ≡ asked) ⊎ (more ≡ asked ++ check ∷ [])
