-- The rows of flows, and the texts of what they show.
use Rattle.std.proofs.Common.{◌≡◌, ◌∙◌, ℕ, ◌+◌, ◌<◌, List, [], ◌++◌, get_or, length, map, take, sym, ap, subst}
use Rattle.std.specs.List.{All, AllZip}
use Rattle.rela_engine.specs.Leaves.{LeafOf, value_of}
use Rattle.rela_engine.specs.declared.leaf.Leaf.{Leaf}
use Rattle.rela_engine.specs.declared.leaf.Leaf.TheVariants.{Holds, Fails, Undecided}
use Rattle.rela_names.specs.declared.level.Level.{Level}
use Rattle.rela_rir.specs.Assertions.{TellsAgainst}
use Rattle.rela_rir.specs.Meaning.{Setting, IsPathWord}
use Rattle.rela_rir.specs.Places.{Scene}
use Rattle.rela_rir.specs.declared.assertion.Assertion.{Assertion}
use Rattle.rela_rir.specs.declared.assertion.Assertion.TheVariants.{Equal, Included}
use Rattle.rela_claims.specs.declared.claim.Claim.{Claim}
use Rattle.rela_rir.specs.declared.set.SymbolSet.{SymbolSet}
use Rattle.rela_snapshot.specs.declared.pairing.FlowPair.{FlowPair}
use Rattle.rela_assertions.specs.Rows.{Appended, AreRowsOf, IsDecided, IsRowOf, each_with_each, scene_for}
use Rattle.rela_assertions.specs.Text.{LeafHasText, RowHasTexts}
use Rattle.rela_assertions.specs.Values.{HasValue, leaves_of}
use Rattle.rela_assertions.specs.declared.row.AssertionRow.{AssertionRow}
use Rattle.rela_assertions.proofs.Zips.{flat_more, zip_all, zip_paired}

of_path_symbols : (m : Setting) (assertion : Assertion) (word : List ℕ) → TellsAgainst m assertion word → IsPathWord m.path_symbols word
of_path_symbols m (Equal x y) word tells = tells.0
of_path_symbols m (Included x y) word tells = tells.0

module _ (names : List (List ℕ)) (level : Level) (states : ℕ) where
  module _ (pair : FlowPair) (claim : Claim) where
    abbrev m : Scene
    m = scene_for names level claim.classes.items pair

    leaf_has_text : (assertion : Assertion) (leaf : Leaf) → LeafOf m assertion states leaf → LeafHasText names leaf
    leaf_has_text assertion Holds told = tt
    leaf_has_text assertion (Fails word side) told = of_path_symbols m.setting assertion word told.first.member
    leaf_has_text assertion Undecided told = tt

    pub row_has_texts : (row : AssertionRow) → IsRowOf names level states pair claim row → RowHasTexts names row
    row_has_texts row is = zip_all (λ leaf told. LeafOf m leaf states told) (LeafHasText names) (leaves_of claim.tree) row.leaves.items leaf_has_text is.leaves

  pub rows_have_texts : (pairs : List FlowPair) (claims : List Claim) (rows : List AssertionRow) → AreRowsOf names level states pairs claims rows → All (RowHasTexts names) rows
  rows_have_texts pairs claims rows are =
      zip_all (λ asked row. IsRowOf names level states asked.0 asked.1 row) (RowHasTexts names) (each_with_each pairs claims) rows
      (λ asked row is. row_has_texts asked.0 asked.1 row is) are

  -- the row of what was decided
  pub row_decided : (pair : FlowPair) (claim : Claim) (classes : List SymbolSet) (old : List Leaf) (row : AssertionRow) → classes ≡ claim.classes.items → old ≡ []
      → IsDecided (scene_for names level classes pair) states claim.tree old row.leaves.items row.value → row.flow ≡ pair.class.name → row.assertion ≡ claim.name → IsRowOf names level states pair claim row
  row_decided pair claim classes old row same none decided flow_is assertion_is =
      let here : IsDecided (scene_for names level claim.classes.items pair) states claim.tree old row.leaves.items row.value =
      subst (λ (cs : List SymbolSet). IsDecided (scene_for names level cs pair) states claim.tree old row.leaves.items row.value) same decided in
      let all : row.leaves.items ≡ here.told.made = here.told.is ∙ ap (λ (l : List Leaf). l ++ here.told.made) none in
      record {
        flow = flow_is;
        assertion = assertion_is;
        leaves = subst (λ (l : List Leaf). AllZip (λ leaf told. LeafOf (scene_for names level claim.classes.items pair) leaf states told) (leaves_of claim.tree) l) (sym all) here.told.each;
        value = subst (λ (l : List Leaf). HasValue claim.tree (map value_of l) row.value) (sym all) here.is;
      }

  -- the rows of one flow more
  pub flow_rows : (pairs : List FlowPair) (claims : List Claim) (rows more : List AssertionRow) (i : ℕ) (pair d : FlowPair) → pair ≡ get_or pairs i d → i < length pairs
      → AreRowsOf names level states (take i pairs) claims rows → Appended (IsRowOf names level states pair) claims rows more → AreRowsOf names level states (take (i + 1) pairs) claims more
  flow_rows pairs claims rows more i pair d is within are appended =
      flat_more (λ (p : FlowPair). map (λ (claim : Claim). (p, claim)) claims) (λ asked row. IsRowOf names level states asked.0 asked.1 row) pairs i d rows appended.made more within are
      (zip_paired (λ (asked : FlowPair × Claim) row. IsRowOf names level states asked.0 asked.1 row) (get_or pairs i d) claims appended.made
      (subst (λ (p : FlowPair). AllZip (IsRowOf names level states p) claims appended.made) is appended.each)) appended.is
