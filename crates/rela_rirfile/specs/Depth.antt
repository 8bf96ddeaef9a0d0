-- How deep the sets of an assertion are.
use Rattle.std.specs.Prelude.{ℕ, ◌+◌, ◌≤◌, max}
use Rattle.rela_rirfile.specs.declared.written.Assert.{Assert}
use Rattle.rela_rirfile.specs.declared.written.AssertExpr.{AssertExpr}
use Rattle.rela_rirfile.specs.declared.written.AssertExpr.TheOpen as a
use Rattle.rela_rirfile.specs.declared.written.AssertExpr.TheFolds.{fold-AssertExpr}
use Rattle.rela_rirfile.specs.declared.written.RelExpr.{RelExpr}
use Rattle.rela_rirfile.specs.declared.written.PathExpr.{PathExpr}
use Rattle.rela_rirfile.specs.declared.written.PathExpr.TheOpen as e
use Rattle.rela_rirfile.specs.declared.written.PathExpr.TheFolds.{fold-PathExpr, fold-RelExpr}

abbrev pub set_layer_depth : e.PathExpr-F ℕ ℕ → ℕ
set_layer_depth (e.PathExpr::Union x y) = max x y + 1
set_layer_depth (e.PathExpr::Concat x y) = max x y + 1
set_layer_depth (e.Meet x y) = max x y + 1
set_layer_depth (e.PathExpr::Star x) = x + 1
set_layer_depth (e.Complement x) = x + 1
set_layer_depth (e.Image x r) = max x r + 1
set_layer_depth _ = 1

abbrev pub rel_layer_depth : e.RelExpr-F ℕ ℕ → ℕ
rel_layer_depth (e.Identity x) = x + 1
rel_layer_depth (e.Product x y) = max x y + 1
rel_layer_depth (e.RelExpr::Star r) = r + 1
rel_layer_depth (e.RelExpr::Union r s) = max r s + 1
rel_layer_depth (e.RelExpr::Concat r s) = max r s + 1
rel_layer_depth (e.Compose r s) = max r s + 1

-- the forms on a longest way down a set: 1 for one without parts
abbrev pub set_depth : PathExpr → ℕ
set_depth = fold-PathExpr ℕ ℕ set_layer_depth rel_layer_depth

abbrev pub rel_depth : RelExpr → ℕ
rel_depth = fold-RelExpr ℕ ℕ set_layer_depth rel_layer_depth

-- one layer of what is asserted, with the depth of the deepest set of each part
abbrev pub tree_layer_depth : a.AssertExpr-F ℕ → ℕ
tree_layer_depth (a.Equal x y) = max (set_depth x) (set_depth y)
tree_layer_depth (a.Included x y) = max (set_depth x) (set_depth y)
tree_layer_depth (a.And m n) = max m n
tree_layer_depth (a.Or m n) = max m n
tree_layer_depth (a.Not m) = m

-- the depth of the deepest set
abbrev pub deepest : AssertExpr → ℕ
deepest = fold-AssertExpr ℕ tree_layer_depth

-- no set of the assertion is deeper than 1,000
abbrev pub IsLow : Assert → Type 0
IsLow assertion = deepest assertion.tree ≤ 1000
