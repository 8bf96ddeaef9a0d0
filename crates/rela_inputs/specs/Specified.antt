-- What the text of a specification asks for: its checks, or its first refusal.
use Rattle.std.specs.Prelude.{◌≡◌, ℕ, List, map, All, Result, Ok, Err}
use Rattle.rela_locations.specs.Network.{Network}
use Rattle.rela_names.specs.declared.level.Level.{Level}
use Rattle.rela_snapshot.specs.Steps.{◌>>=◌}
use Rattle.rela_spec.specs.declared.tree.SpecFile.{SpecFile}
use Rattle.rela_translate.specs.Checked.{Checked as Check}
use Rattle.rela_expand.specs.Expand.{expanded, outcome_of}
use Rattle.rela_inputs.specs.Specifications.{IsFaultOf, ReadsTree}
use Rattle.rela_inputs.specs.declared.asking.Asked.{Asked}
use Rattle.rela_inputs.specs.declared.refusal.Input.TheVariants.{Spec}
use Rattle.rela_inputs.specs.declared.refusal.Refusal.{Refusal}

-- the level of the locations, and the checks in their order
pub record Specified : Type 0 where
  pub level : Level
  pub checks : List Check

-- the checks are what the tree expands to over the network, each at the tree's level
pub record IsSpecified (network : Network) (tree : SpecFile) (specified : Specified) : Type 0 where
  pub outcomes : expanded network tree ≡ Ok (map outcome_of specified.checks)
  pub level : specified.level ≡ tree.level
  pub levels : All (λ check. check.level ≡ tree.level) specified.checks

-- what a tree asks for over the network, or the first refusal as it is expanded
abbrev pub AsksFor : Network → SpecFile → Result Specified Refusal → Type 0
AsksFor network tree (Ok specified) = IsSpecified network tree specified
AsksFor network tree (Err refusal) = IsFaultOf Spec (λ e. expanded network tree ≡ Err e) refusal

-- what a text asks for, or its first refusal: of its tokens, else of their tree, else as that is expanded
unfoldable pub ReadsChecks : Network → List ℕ → Result Specified Refusal → Type 0
ReadsChecks network bytes = do
  tree ← ReadsTree bytes
  AsksFor network tree

-- the same level, and the same checks there
pub record SameSpecified (a b : Specified) : Type 0 where
  pub level : a.level ≡ b.level
  pub checks : map outcome_of a.checks ≡ map outcome_of b.checks
  pub levels : All (λ check. check.level ≡ a.level) a.checks
  pub others : All (λ check. check.level ≡ b.level) b.checks

-- what was read, as data
abbrev pub specified_by : Asked → Specified
specified_by asked = record { level = asked.level; checks = asked.checks.items }
