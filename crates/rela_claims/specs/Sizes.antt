-- How many nodes there will be in the terms of an assertion, told before they are made. It serves
-- private clauses.
use Rattle.std.specs.Prelude.{ℕ, ◌+◌}
use Rattle.rela_rirfile.specs.declared.written.AssertExpr.{AssertExpr}
use Rattle.rela_rirfile.specs.declared.written.AssertExpr.TheOpen as a
use Rattle.rela_rirfile.specs.declared.written.AssertExpr.TheFolds.{fold-AssertExpr}
use Rattle.rela_rirfile.specs.declared.written.PathExpr.{PathExpr}
use Rattle.rela_rirfile.specs.declared.written.PathExpr.TheOpen as e
use Rattle.rela_rirfile.specs.declared.written.PathExpr.TheFolds.{fold-PathExpr, fold-RelExpr}
use Rattle.rela_rirfile.specs.declared.written.RelExpr.{RelExpr}

abbrev pub set_layer_size : e.PathExpr-F ℕ ℕ → ℕ
set_layer_size (e.PathExpr::Union x y) = x + y + 1
set_layer_size (e.PathExpr::Concat x y) = x + y + 1
set_layer_size (e.Meet x y) = x + y + 1
set_layer_size (e.PathExpr::Star x) = x + 1
set_layer_size (e.Complement x) = x + 1
set_layer_size (e.Image x r) = x + r + 1
set_layer_size _ = 1

abbrev pub rel_layer_size : e.RelExpr-F ℕ ℕ → ℕ
rel_layer_size (e.Identity x) = x + 1
rel_layer_size (e.Product x y) = x + y + 1
rel_layer_size (e.RelExpr::Star r) = r + 1
rel_layer_size (e.RelExpr::Union r s) = r + s + 1
rel_layer_size (e.RelExpr::Concat r s) = r + s + 1
rel_layer_size (e.Compose r s) = r + s + 1

abbrev pub size_of_set : PathExpr → ℕ
size_of_set = fold-PathExpr ℕ ℕ set_layer_size rel_layer_size

abbrev pub size_of_rel : RelExpr → ℕ
size_of_rel = fold-RelExpr ℕ ℕ set_layer_size rel_layer_size

abbrev pub tree_layer_size : a.AssertExpr-F ℕ → ℕ
tree_layer_size (a.Equal x y) = size_of_set x + size_of_set y
tree_layer_size (a.Included x y) = size_of_set x + size_of_set y
tree_layer_size (a.And m n) = m + n
tree_layer_size (a.Or m n) = m + n
tree_layer_size (a.Not m) = m

abbrev pub size_of_tree : AssertExpr → ℕ
size_of_tree = fold-AssertExpr ℕ tree_layer_size
