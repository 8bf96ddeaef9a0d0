-- Which classes an assertion mentions, from left to right, and what it becomes once these have
-- numbers: every other word stands for the form of its name, with its arguments in order.
use Rattle.std.specs.Prelude.{ℕ, ◌+◌, List, [], ◌∷◌, ◌++◌}
use Rattle.rela_names.specs.declared.level.Level.{Level}
use Rattle.rela_rir.specs.Assertions.{first_term, second_term}
use Rattle.rela_rir.specs.Size.{nodes_of_path}
use Rattle.rela_rir.specs.declared.assertion.Assertion.TheVariants as assertion
use Rattle.rela_rir.specs.declared.term.PathTerm.{PathTerm}
use Rattle.rela_rir.specs.declared.term.PathTerm.TheVariants as path
use Rattle.rela_rir.specs.declared.term.RelTerm.{RelTerm}
use Rattle.rela_rir.specs.declared.term.RelTerm.TheVariants as rel
use Rattle.rela_rirfile.specs.declared.written.AssertExpr.{AssertExpr}
use Rattle.rela_rirfile.specs.declared.written.AssertExpr.TheOpen as a
use Rattle.rela_rirfile.specs.declared.written.AssertExpr.TheFolds.{fold-AssertExpr}
use Rattle.rela_rirfile.specs.declared.written.PathExpr.{PathExpr}
use Rattle.rela_rirfile.specs.declared.written.PathExpr.TheOpen as e
use Rattle.rela_rirfile.specs.declared.written.PathExpr.TheFolds.{fold-PathExpr, fold-RelExpr}
use Rattle.rela_rirfile.specs.declared.written.RelExpr.{RelExpr}
use Rattle.rela_claims.specs.Classes.{Class, All, Mention, mention_of, mention_of_all}
use Rattle.rela_claims.specs.declared.claim.Tree.{Tree}
use Rattle.rela_claims.specs.declared.claim.Tree.TheOpen as t
use Rattle.rela_claims.specs.declared.claim.Tree.TheVariants as tree
use Rattle.rela_claims.specs.declared.claim.Tree.TheFolds.{fold-Tree}

abbrev pub set_layer_mentions : Level → e.PathExpr-F (List Mention) (List Mention) → List Mention
set_layer_mentions level e.All = mention_of_all ∷ []
set_layer_mentions level (e.Member m) = mention_of level m ∷ []
set_layer_mentions level (e.PathExpr::Union x y) = x ++ y
set_layer_mentions level (e.PathExpr::Concat x y) = x ++ y
set_layer_mentions level (e.Meet x y) = x ++ y
set_layer_mentions level (e.PathExpr::Star x) = x
set_layer_mentions level (e.Complement x) = x
set_layer_mentions level (e.Image x r) = x ++ r
set_layer_mentions level _ = []

abbrev pub rel_layer_mentions : e.RelExpr-F (List Mention) (List Mention) → List Mention
rel_layer_mentions (e.Identity x) = x
rel_layer_mentions (e.Product x y) = x ++ y
rel_layer_mentions (e.RelExpr::Star r) = r
rel_layer_mentions (e.RelExpr::Union r s) = r ++ s
rel_layer_mentions (e.RelExpr::Concat r s) = r ++ s
rel_layer_mentions (e.Compose r s) = r ++ s

-- the classes that a set mentions
abbrev pub mentions_in_set : Level → PathExpr → List Mention
mentions_in_set level =
    fold-PathExpr (List Mention) (List Mention) (set_layer_mentions level) rel_layer_mentions

abbrev pub mentions_in_rel : Level → RelExpr → List Mention
mentions_in_rel level =
    fold-RelExpr (List Mention) (List Mention) (set_layer_mentions level) rel_layer_mentions

abbrev pub tree_layer_mentions : Level → a.AssertExpr-F (List Mention) → List Mention
tree_layer_mentions level (a.Equal x y) = mentions_in_set level x ++ mentions_in_set level y
tree_layer_mentions level (a.Included x y) = mentions_in_set level x ++ mentions_in_set level y
tree_layer_mentions level (a.And x y) = x ++ y
tree_layer_mentions level (a.Or x y) = x ++ y
tree_layer_mentions level (a.Not x) = x

-- the classes that what is asserted mentions
abbrev pub mentions_in : Level → AssertExpr → List Mention
mentions_in level = fold-AssertExpr (List Mention) (tree_layer_mentions level)

abbrev pub set_layer_term : Level → (Class → ℕ) → e.PathExpr-F PathTerm RelTerm → PathTerm
set_layer_term level number e.None = path.None
set_layer_term level number e.Empty = path.Empty
set_layer_term level number e.Pre = path.Pre
set_layer_term level number e.Post = path.Post
set_layer_term level number e.All = path.Class (number All)
set_layer_term level number (e.Member m) = path.Class (number (mention_of level m).class)
set_layer_term level number (e.PathExpr::Union x y) = path.Union x y
set_layer_term level number (e.PathExpr::Concat x y) = path.Concat x y
set_layer_term level number (e.Meet x y) = path.Meet x y
set_layer_term level number (e.PathExpr::Star x) = path.Star x
set_layer_term level number (e.Complement x) = path.Complement x
set_layer_term level number (e.Image x r) = path.Image x r

abbrev pub rel_layer_term : e.RelExpr-F PathTerm RelTerm → RelTerm
rel_layer_term (e.Identity x) = rel.Identity x
rel_layer_term (e.Product x y) = rel.Product x y
rel_layer_term (e.RelExpr::Star r) = rel.Star r
rel_layer_term (e.RelExpr::Union r s) = rel.Union r s
rel_layer_term (e.RelExpr::Concat r s) = rel.Concat r s
rel_layer_term (e.Compose r s) = rel.Compose r s

-- the term of a set, where each class has this number
abbrev pub term_of : Level → (Class → ℕ) → PathExpr → PathTerm
term_of level number =
    fold-PathExpr PathTerm RelTerm (set_layer_term level number) rel_layer_term

abbrev pub rel_term_of : Level → (Class → ℕ) → RelExpr → RelTerm
rel_term_of level number =
    fold-RelExpr PathTerm RelTerm (set_layer_term level number) rel_layer_term

abbrev pub tree_layer_tree : Level → (Class → ℕ) → a.AssertExpr-F Tree → Tree
tree_layer_tree level number (a.Equal x y) =
    tree.Leaf (assertion.Equal (term_of level number x) (term_of level number y))
tree_layer_tree level number (a.Included x y) =
    tree.Leaf (assertion.Included (term_of level number x) (term_of level number y))
tree_layer_tree level number (a.And x y) = tree.And x y
tree_layer_tree level number (a.Or x y) = tree.Or x y
tree_layer_tree level number (a.Not x) = tree.Not x

-- the tree of what is asserted
abbrev pub tree_of : Level → (Class → ℕ) → AssertExpr → Tree
tree_of level number = fold-AssertExpr Tree (tree_layer_tree level number)

abbrev pub tree_layer_nodes : t.Tree-F ℕ → ℕ
tree_layer_nodes (t.Leaf leaf) = nodes_of_path (first_term leaf) + nodes_of_path (second_term leaf)
tree_layer_nodes (t.And m n) = m + n
tree_layer_nodes (t.Or m n) = m + n
tree_layer_nodes (t.Not m) = m

-- the nodes of all the terms of a tree together
abbrev pub nodes_in : Tree → ℕ
nodes_in = fold-Tree ℕ tree_layer_nodes
