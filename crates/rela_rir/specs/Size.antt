-- How many nodes a term has and how deep it is. A node is one form with what it names; a class is one node.
use Rattle.std.specs.Prelude.{ℕ, ◌+◌, max}
use Rattle.rela_rir.specs.declared.term.PathTerm.{PathTerm}
use Rattle.rela_rir.specs.declared.term.RelTerm.{RelTerm}
use Rattle.rela_rir.specs.declared.term.PathTerm.TheOpen.{PathTerm-F, PathTerm::Union, PathTerm::Concat, PathTerm::Star, Meet, Complement, Image, RelTerm-F, Identity, Product, RelTerm::Union, RelTerm::Concat, RelTerm::Star, Compose}
use Rattle.rela_rir.specs.declared.term.PathTerm.TheFolds.{fold-PathTerm, fold-RelTerm}

abbrev pub layer_nodes : PathTerm-F ℕ ℕ → ℕ
layer_nodes (PathTerm::Union a b) = a + b + 1
layer_nodes (PathTerm::Concat a b) = a + b + 1
layer_nodes (PathTerm::Star a) = a + 1
layer_nodes (Meet a b) = a + b + 1
layer_nodes (Complement a) = a + 1
layer_nodes (Image a b) = a + b + 1
layer_nodes _ = 1

abbrev pub layer_nodes_rel : RelTerm-F ℕ ℕ → ℕ
layer_nodes_rel (Identity a) = a + 1
layer_nodes_rel (Product a b) = a + b + 1
layer_nodes_rel (RelTerm::Union a b) = a + b + 1
layer_nodes_rel (RelTerm::Concat a b) = a + b + 1
layer_nodes_rel (RelTerm::Star a) = a + 1
layer_nodes_rel (Compose a b) = a + b + 1

-- the nodes of a path term, those inside its relation terms too
abbrev pub nodes_of_path : PathTerm → ℕ
nodes_of_path = fold-PathTerm ℕ ℕ layer_nodes layer_nodes_rel

-- the nodes of a relation term, those inside its path terms too
abbrev pub nodes_of_rel : RelTerm → ℕ
nodes_of_rel = fold-RelTerm ℕ ℕ layer_nodes layer_nodes_rel

abbrev pub layer_depth : PathTerm-F ℕ ℕ → ℕ
layer_depth (PathTerm::Union a b) = max a b + 1
layer_depth (PathTerm::Concat a b) = max a b + 1
layer_depth (PathTerm::Star a) = a + 1
layer_depth (Meet a b) = max a b + 1
layer_depth (Complement a) = a + 1
layer_depth (Image a b) = max a b + 1
layer_depth _ = 1

abbrev pub layer_depth_rel : RelTerm-F ℕ ℕ → ℕ
layer_depth_rel (Identity a) = a + 1
layer_depth_rel (Product a b) = max a b + 1
layer_depth_rel (RelTerm::Union a b) = max a b + 1
layer_depth_rel (RelTerm::Concat a b) = max a b + 1
layer_depth_rel (RelTerm::Star a) = a + 1
layer_depth_rel (Compose a b) = max a b + 1

-- the nodes of a longest way down the term: 1 for a term without parts
abbrev pub depth_of_path : PathTerm → ℕ
depth_of_path = fold-PathTerm ℕ ℕ layer_depth layer_depth_rel

abbrev pub depth_of_rel : RelTerm → ℕ
depth_of_rel = fold-RelTerm ℕ ℕ layer_depth layer_depth_rel
