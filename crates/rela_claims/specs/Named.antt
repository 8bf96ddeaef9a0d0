-- The symbols that the terms of a tree name one by one, and not by a class, from left to right.
use Rattle.std.specs.Prelude.{ℕ, List, ◌++◌}
use Rattle.rela_rir.specs.NamedSymbols.{symbols_of_terms}
use Rattle.rela_claims.specs.declared.claim.Tree.{Tree}
use Rattle.rela_claims.specs.declared.claim.Tree.TheOpen as t
use Rattle.rela_claims.specs.declared.claim.Tree.TheFolds.{fold-Tree}

abbrev pub tree_layer_symbols : t.Tree-F (List ℕ) → List ℕ
tree_layer_symbols (t.Leaf leaf) = symbols_of_terms leaf
tree_layer_symbols (t.And a b) = a ++ b
tree_layer_symbols (t.Or a b) = a ++ b
tree_layer_symbols (t.Not a) = a

-- those of all the terms of a tree
abbrev pub symbols_in_tree : Tree → List ℕ
symbols_in_tree = fold-Tree (List ℕ) tree_layer_symbols
