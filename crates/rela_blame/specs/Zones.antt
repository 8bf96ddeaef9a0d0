-- Under a violated row: which alternative of its check's body claimed the source, and where that stands in the text.
use Rattle.std.specs.Prelude.{◌≡◌, ℕ, ◌≤◌, ◌==◌, ◌&&◌, ⊤, Bool, List, Option, None, Some, IsSomeAnd, length, map, slice_get}
use Rattle.std.specs.HashMap.{HashMap, get}
use Rattle.std.specs.List.{Contains}
use Rattle.rela_branches.specs.Alternatives.{IsBlame}
use Rattle.rela_branches.specs.declared.claiming.Branches.{Branches}
use Rattle.rela_lex.specs.declared.token.Token.{Token}
use Rattle.rela_report.specs.declared.rows.ReportRow.{ReportRow}
use Rattle.rela_report.specs.declared.rows.ReportRow.TheVariants.{Selected, Unselected}
use Rattle.rela_report.specs.declared.rows.Row.TheVariants.{Compliant, Undecided, Violated}
use Rattle.rela_report.specs.declared.zones.Zone.{Zone}
use Rattle.rela_spec.specs.declared.tree.SpecFile.{SpecFile}
use Rattle.rela_translate.specs.Checked.{Checked as Check}
use Rattle.rela_translate.specs.Zones as translate
use Rattle.rela_blame.specs.Alternatives.{StandsAt, check_leads}

-- the check of this name among the checks, and what it has
abbrev pub SomeNamed : (Check → Type 0) → List ℕ → List Check → Type 0
SomeNamed P name checks = (check : Check) × Contains checks check × (check.name ≡ name) × P check

-- the alternative of this number of the check's body claimed the source, and it stands there in the text with these
-- tokens
pub record IsBlamed (file : SpecFile) (tokens : List Token) (locations : ℕ) (source : List ℕ)
    (zone : Zone) (check : Check) : Type 0 where
  pub alternative : IsBlame check.classes locations check.body source zone.number
  pub place : StandsAt file tokens check.name zone.number zone.at

-- the zone is that of a violated row, by the check that has the row's name
abbrev pub IsZoneOf : SpecFile → List Token → ℕ → List Check → ReportRow → Zone → Type 0
IsZoneOf file tokens locations checks (Selected flow name (Violated word side source)) zone =
    SomeNamed (IsBlamed file tokens locations source zone) name checks
IsZoneOf file tokens locations checks (Selected flow name Compliant) zone = ⊥
IsZoneOf file tokens locations checks (Selected flow name Undecided) zone = ⊥
IsZoneOf file tokens locations checks (Unselected flow) zone = ⊥

-- where the row is violated, its source is in the zone of the body of the check that has its name
abbrev pub HasClaim : ℕ → List Check → ReportRow → Type 0
HasClaim locations checks (Selected flow name (Violated word side source)) =
    SomeNamed (λ check. translate.Zone check.classes locations check.body source) name checks
HasClaim locations checks (Selected flow name Compliant) = ⊤
HasClaim locations checks (Selected flow name Undecided) = ⊤
HasClaim locations checks (Unselected flow) = ⊤

-- where the row is violated, the name of its check and the source
abbrev pub claim_of : ReportRow → Option (List ℕ × List ℕ)
claim_of (Selected flow name (Violated word side source)) = Some (name, source)
claim_of (Selected flow name Compliant) = None
claim_of (Selected flow name Undecided) = None
claim_of (Unselected flow) = None

-- the checks, without the alternatives of their bodies
abbrev pub checks_of : List Branches → List Check
checks_of all = map (λ branches. branches.check.now) all

-- a check of this name among those with the alternatives of their bodies, and what it has
abbrev pub SomeBranches : (Branches → Type 0) → List ℕ → List Branches → Type 0
SomeBranches P name all = (branches : Branches) × Contains all branches
    × (branches.check.now.name ≡ name) × P branches

module _ (file : SpecFile) (tokens : List Token) (checks : List Check) where
  -- the check of this index has an alternative of this number
  abbrev pub IsNumber : ℕ → ℕ → Type 0
  IsNumber index number = IsSomeAnd (slice_get checks index) (λ check.
      (1 ≤ number) × (number ≤ length (check_leads file tokens check.name)))

  -- the alternative of this number of the check of this index stands there in the text
  abbrev pub IsOffset : ℕ → ℕ → ℕ → Type 0
  IsOffset index number at = IsSomeAnd (slice_get checks index) (λ check.
      StandsAt file tokens check.name number at)

-- whether two pairs of numbers are equal
abbrev pub same_numbers : ℕ × ℕ → ℕ × ℕ → Bool
same_numbers x y = (x.0 == y.0) && (x.1 == y.1)

-- the offsets are kept by the index of the check and the number of the alternative
abbrev pub AreOffsets : {S : Type 0} → SpecFile → List Token → List Check →
    HashMap (ℕ × ℕ) ℕ S → Type 0
AreOffsets file tokens checks offsets =
    (index number at : ℕ) → get same_numbers offsets (index, number) ≡ Some at →
    IsOffset file tokens checks index number at
