-- How far right rows of the same assertions for the same flows agree.
use Rattle.std.specs.Prelude.{◌≡◌, ℕ, ◌⊎◌, List}
use Rattle.std.specs.List.{AllZip}
use Rattle.rela_claims.specs.declared.claim.Claim.{Claim}
use Rattle.rela_blocks.specs.Scenes.{paths_of}
use Rattle.rela_engine.specs.Scenes.{SamePathSets}
use Rattle.rela_engine.specs.declared.leaf.Leaf.{Leaf}
use Rattle.rela_engine.specs.declared.leaf.Leaf.TheVariants as leaf
use Rattle.rela_names.specs.declared.level.Level.{Level}
use Rattle.rela_rir.specs.declared.value.Value.{Value}
use Rattle.rela_rir.specs.declared.value.Value.TheVariants as value
use Rattle.rela_snapshot.specs.declared.pairing.FlowPair.{FlowPair}
use Rattle.rela_assertions.specs.declared.row.AssertionRow.{AssertionRow}

-- the two tell the same of an assertion, or one of them leaves it undecided
abbrev pub AgreeInLeaf : Leaf → Leaf → Type 0
AgreeInLeaf told other = (told ≡ other) ⊎ ((told ≡ leaf.Undecided) ⊎ (other ≡ leaf.Undecided))

-- likewise of what is known
abbrev pub AgreeInValue : Value → Value → Type 0
AgreeInValue known other =
    (known ≡ other) ⊎ ((known ≡ value.Undecided) ⊎ (other ≡ value.Undecided))

-- the two rows have one flow and one assertion, and they agree in each leaf and in the value
pub record AgreeInRow (row other : AssertionRow) : Type 0 where
  pub flow : row.flow ≡ other.flow
  pub assertion : row.assertion ≡ other.assertion
  pub leaves : AllZip AgreeInLeaf row.leaves.items other.leaves.items
  pub value : AgreeInValue row.value other.value

abbrev pub AgreeInRows : List AssertionRow → List AssertionRow → Type 0
AgreeInRows = AllZip AgreeInRow

-- the two flows have one class, and at the level, whose locations are `names`, the same paths
pub record AreFlowsAlike (names : List (List ℕ)) (level : Level) (pair other : FlowPair) : Type 0 where
  pub class : pair.class ≡ other.class
  pub paths : SamePathSets (paths_of level names pair.before pair.after)
      (paths_of level names other.before other.after)

-- the two assertions have one name, one tree and one class table
pub record AreClaimsAlike (claim other : Claim) : Type 0 where
  pub name : claim.name ≡ other.name
  pub tree : claim.tree ≡ other.tree
  pub classes : claim.classes.items ≡ other.classes.items
