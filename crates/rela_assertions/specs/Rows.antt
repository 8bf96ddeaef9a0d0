-- The rows of a run over assertions: flow after flow, one for each assertion. `names` are the locations of the
-- assertions' level, and `states` is the state limit.
use Rattle.std.specs.Prelude.{◌≡◌, ℕ, ◌<◌, List, [], ◌++◌, All, length, map}
use Rattle.std.specs.List.{AllZip, flat_map}
use Rattle.rela_engine.specs.Leaves.{LeafOf, plain_scene, value_of}
use Rattle.rela_blocks.specs.Scenes.{paths_of}
use Rattle.rela_engine.specs.declared.leaf.Leaf.{Leaf}
use Rattle.rela_names.specs.Alphabet.{path_symbols}
use Rattle.rela_names.specs.declared.level.Level.{Level}
use Rattle.rela_rir.specs.Places.{Scene}
use Rattle.rela_rir.specs.declared.set.SymbolSet.{SymbolSet}
use Rattle.rela_rir.specs.declared.value.Value.{Value}
use Rattle.rela_claims.specs.Named.{symbols_in_tree}
use Rattle.rela_claims.specs.declared.claim.Claim.{Claim}
use Rattle.rela_claims.specs.declared.claim.Tree.{Tree}
use Rattle.rela_snapshot.specs.declared.pairing.FlowPair.{FlowPair}
use Rattle.rela_assertions.specs.Values.{HasValue, leaves_of}
use Rattle.rela_assertions.specs.declared.row.AssertionRow.{AssertionRow}

-- in what the terms of an assertion with this class table are read for a flow
abbrev pub scene_for : List (List ℕ) → Level → List SymbolSet → FlowPair → Scene
scene_for names level classes pair =
    plain_scene classes (length names) (paths_of level names pair.before pair.after)

-- the row has the names of the flow and of the assertion, what is told of each leaf is right, and the value is that of
-- the tree by its leaves
pub record IsRowOf (names : List (List ℕ)) (level : Level) (states : ℕ) (pair : FlowPair)
    (claim : Claim) (row : AssertionRow) : Type 0 where
  pub flow : row.flow ≡ pair.class.name
  pub assertion : row.assertion ≡ claim.name
  pub leaves : AllZip (λ leaf told.
      LeafOf (scene_for names level claim.classes.items pair) leaf states told)
      (leaves_of claim.tree) row.leaves.items
  pub value : HasValue claim.tree (map value_of row.leaves.items) row.value

-- each flow with each assertion, flow after flow
abbrev pub each_with_each : List FlowPair → List Claim → List (FlowPair × Claim)
each_with_each pairs claims = flat_map (λ pair. map (λ claim. (pair, claim)) claims) pairs

-- the rows of the flows under the assertions
abbrev pub AreRowsOf : List (List ℕ) → Level → ℕ → List FlowPair → List Claim →
    List AssertionRow → Type 0
AreRowsOf names level states pairs claims rows =
    AllZip (λ asked row. IsRowOf names level states asked.0 asked.1 row)
    (each_with_each pairs claims) rows

-- its classes list path symbols of these locations, and its terms name symbols by classes alone
pub record IsClaimAt (names : List (List ℕ)) (claim : Claim) : Type 0 where
  pub listed : All (λ set. All (λ s. s < path_symbols names) set.members) claim.classes.items
  pub plain : symbols_in_tree claim.tree ≡ []

-- the items from before, and then one for each of these
pub record Appended {A B : Type 0} (R : A → B → Type 0) (xs : List A) (old new : List B)
    : Type 0 where
  pub made : List B
  pub is : new ≡ old ++ made
  pub each : AllZip R xs made

-- what is told of each leaf of the tree is appended, and the value is that of the tree by them
pub record IsDecided (m : Scene) (states : ℕ) (tree : Tree) (old new : List Leaf)
    (value : Value) : Type 0 where
  pub told : Appended (λ leaf told. LeafOf m leaf states told) (leaves_of tree) old new
  pub is : HasValue tree (map value_of told.made) value
