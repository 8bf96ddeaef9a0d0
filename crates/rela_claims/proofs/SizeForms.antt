-- How many nodes there are in what each form of set, relation and assertion becomes.
use Rattle.std.proofs.Common.{◌≡◌, ◌∙◌, ℕ, ◌+◌, sym, ap}
use Rattle.rela_names.specs.declared.level.Level.{Level}
use Rattle.rela_spec.specs.declared.tree.Member.{Member}
use Rattle.rela_rir.specs.Size.{layer_nodes, layer_nodes_rel, nodes_of_path, nodes_of_rel}
use Rattle.rela_rir.specs.declared.assertion.Assertion.TheVariants as O
use Rattle.rela_rir.specs.declared.term.PathTerm.TheOpen as H
use Rattle.rela_rir.specs.declared.term.PathTerm.TheVariants as P
use Rattle.rela_rir.specs.declared.term.PathTerm.TheFolds.{fold-roll-PathTerm, fold-roll-RelTerm}
use Rattle.rela_rir.specs.declared.term.RelTerm.TheVariants as T
use Rattle.rela_rirfile.specs.declared.written.AssertExpr.{AssertExpr}
use Rattle.rela_rirfile.specs.declared.written.AssertExpr.TheVariants as A
use Rattle.rela_rirfile.specs.declared.written.RelExpr.{RelExpr}
use Rattle.rela_rirfile.specs.declared.written.RelExpr.TheVariants as R
use Rattle.rela_rirfile.specs.declared.written.PathExpr.{PathExpr}
use Rattle.rela_rirfile.specs.declared.written.PathExpr.TheVariants as S
use Rattle.rela_claims.specs.Classes.{Class, All, mention_of}
use Rattle.rela_claims.specs.Terms.{tree_layer_nodes, nodes_in, rel_term_of, term_of, tree_of}
use Rattle.rela_claims.specs.declared.claim.Tree.TheOpen as G
use Rattle.rela_claims.specs.declared.claim.Tree.TheVariants as W
use Rattle.rela_claims.specs.declared.claim.Tree.TheFolds.{fold-roll-Tree}
use Rattle.rela_claims.proofs.TermForms.{term_of_none, term_of_empty, term_of_pre, term_of_post, term_of_all, term_of_member, term_of_union, term_of_concat, term_of_meet, term_of_star, term_of_complement, term_of_image, term_of_identity, term_of_product, term_of_rel_star, term_of_rel_union, term_of_rel_concat, term_of_compose}
use Rattle.rela_claims.proofs.TreeForms.{tree_of_equal, tree_of_included, tree_of_and, tree_of_or, tree_of_not}

pub size_none : (level : Level) (number : Class → ℕ) → nodes_of_path (term_of level number S.None) ≡ 1
size_none level number =
    ap nodes_of_path (term_of_none level number ∙ sym P.rolls-None) ∙ fold-roll-PathTerm ℕ ℕ layer_nodes layer_nodes_rel H.None

pub size_empty : (level : Level) (number : Class → ℕ) → nodes_of_path (term_of level number S.Empty) ≡ 1
size_empty level number =
    ap nodes_of_path (term_of_empty level number ∙ sym P.rolls-Empty) ∙ fold-roll-PathTerm ℕ ℕ layer_nodes layer_nodes_rel H.Empty

pub size_pre : (level : Level) (number : Class → ℕ) → nodes_of_path (term_of level number S.Pre) ≡ 1
size_pre level number =
    ap nodes_of_path (term_of_pre level number ∙ sym P.rolls-Pre) ∙ fold-roll-PathTerm ℕ ℕ layer_nodes layer_nodes_rel H.Pre

pub size_post : (level : Level) (number : Class → ℕ) → nodes_of_path (term_of level number S.Post) ≡ 1
size_post level number =
    ap nodes_of_path (term_of_post level number ∙ sym P.rolls-Post) ∙ fold-roll-PathTerm ℕ ℕ layer_nodes layer_nodes_rel H.Post

pub size_all : (level : Level) (number : Class → ℕ) → nodes_of_path (term_of level number S.All) ≡ 1
size_all level number =
    ap nodes_of_path (term_of_all level number ∙ sym (P.rolls-Class (number All))) ∙ fold-roll-PathTerm ℕ ℕ layer_nodes layer_nodes_rel (H.Class (number All))

pub size_member : (level : Level) (number : Class → ℕ) (m : Member) → nodes_of_path (term_of level number (S.Member m)) ≡ 1
size_member level number m =
    ap nodes_of_path (term_of_member level number m ∙ sym (P.rolls-Class (number (mention_of level m).class))) ∙ fold-roll-PathTerm ℕ ℕ layer_nodes layer_nodes_rel (H.Class (number (mention_of level m).class))

pub size_union : (level : Level) (number : Class → ℕ) (x : PathExpr) (y : PathExpr) → nodes_of_path (term_of level number (S.Union x y)) ≡ nodes_of_path (term_of level number x) + nodes_of_path (term_of level number y) + 1
size_union level number x y =
    ap nodes_of_path (term_of_union level number x y ∙ sym (P.rolls-Union (term_of level number x) (term_of level number y))) ∙ fold-roll-PathTerm ℕ ℕ layer_nodes layer_nodes_rel (H.PathTerm::Union (term_of level number x) (term_of level number y))

pub size_concat : (level : Level) (number : Class → ℕ) (x : PathExpr) (y : PathExpr) → nodes_of_path (term_of level number (S.Concat x y)) ≡ nodes_of_path (term_of level number x) + nodes_of_path (term_of level number y) + 1
size_concat level number x y =
    ap nodes_of_path (term_of_concat level number x y ∙ sym (P.rolls-Concat (term_of level number x) (term_of level number y))) ∙ fold-roll-PathTerm ℕ ℕ layer_nodes layer_nodes_rel (H.PathTerm::Concat (term_of level number x) (term_of level number y))

pub size_meet : (level : Level) (number : Class → ℕ) (x : PathExpr) (y : PathExpr) → nodes_of_path (term_of level number (S.Meet x y)) ≡ nodes_of_path (term_of level number x) + nodes_of_path (term_of level number y) + 1
size_meet level number x y =
    ap nodes_of_path (term_of_meet level number x y ∙ sym (P.rolls-Meet (term_of level number x) (term_of level number y))) ∙ fold-roll-PathTerm ℕ ℕ layer_nodes layer_nodes_rel (H.Meet (term_of level number x) (term_of level number y))

pub size_star : (level : Level) (number : Class → ℕ) (x : PathExpr) → nodes_of_path (term_of level number (S.Star x)) ≡ nodes_of_path (term_of level number x) + 1
size_star level number x =
    ap nodes_of_path (term_of_star level number x ∙ sym (P.rolls-Star (term_of level number x))) ∙ fold-roll-PathTerm ℕ ℕ layer_nodes layer_nodes_rel (H.PathTerm::Star (term_of level number x))

pub size_complement : (level : Level) (number : Class → ℕ) (x : PathExpr) → nodes_of_path (term_of level number (S.Complement x)) ≡ nodes_of_path (term_of level number x) + 1
size_complement level number x =
    ap nodes_of_path (term_of_complement level number x ∙ sym (P.rolls-Complement (term_of level number x))) ∙ fold-roll-PathTerm ℕ ℕ layer_nodes layer_nodes_rel (H.Complement (term_of level number x))

pub size_image : (level : Level) (number : Class → ℕ) (x : PathExpr) (r : RelExpr) → nodes_of_path (term_of level number (S.Image x r)) ≡ nodes_of_path (term_of level number x) + nodes_of_rel (rel_term_of level number r) + 1
size_image level number x r =
    ap nodes_of_path (term_of_image level number x r ∙ sym (P.rolls-Image (term_of level number x) (rel_term_of level number r))) ∙ fold-roll-PathTerm ℕ ℕ layer_nodes layer_nodes_rel (H.Image (term_of level number x) (rel_term_of level number r))

pub size_identity : (level : Level) (number : Class → ℕ) (x : PathExpr) → nodes_of_rel (rel_term_of level number (R.Identity x)) ≡ nodes_of_path (term_of level number x) + 1
size_identity level number x =
    ap nodes_of_rel (term_of_identity level number x ∙ sym (T.rolls-Identity (term_of level number x))) ∙ fold-roll-RelTerm ℕ ℕ layer_nodes layer_nodes_rel (H.Identity (term_of level number x))

pub size_product : (level : Level) (number : Class → ℕ) (x : PathExpr) (y : PathExpr) → nodes_of_rel (rel_term_of level number (R.Product x y)) ≡ nodes_of_path (term_of level number x) + nodes_of_path (term_of level number y) + 1
size_product level number x y =
    ap nodes_of_rel (term_of_product level number x y ∙ sym (T.rolls-Product (term_of level number x) (term_of level number y))) ∙ fold-roll-RelTerm ℕ ℕ layer_nodes layer_nodes_rel (H.Product (term_of level number x) (term_of level number y))

pub size_rel_star : (level : Level) (number : Class → ℕ) (r : RelExpr) → nodes_of_rel (rel_term_of level number (R.Star r)) ≡ nodes_of_rel (rel_term_of level number r) + 1
size_rel_star level number r =
    ap nodes_of_rel (term_of_rel_star level number r ∙ sym (T.rolls-Star (rel_term_of level number r))) ∙ fold-roll-RelTerm ℕ ℕ layer_nodes layer_nodes_rel (H.RelTerm::Star (rel_term_of level number r))

pub size_rel_union : (level : Level) (number : Class → ℕ) (r : RelExpr) (s : RelExpr) → nodes_of_rel (rel_term_of level number (R.Union r s)) ≡ nodes_of_rel (rel_term_of level number r) + nodes_of_rel (rel_term_of level number s) + 1
size_rel_union level number r s =
    ap nodes_of_rel (term_of_rel_union level number r s ∙ sym (T.rolls-Union (rel_term_of level number r) (rel_term_of level number s))) ∙ fold-roll-RelTerm ℕ ℕ layer_nodes layer_nodes_rel (H.RelTerm::Union (rel_term_of level number r) (rel_term_of level number s))

pub size_rel_concat : (level : Level) (number : Class → ℕ) (r : RelExpr) (s : RelExpr) → nodes_of_rel (rel_term_of level number (R.Concat r s)) ≡ nodes_of_rel (rel_term_of level number r) + nodes_of_rel (rel_term_of level number s) + 1
size_rel_concat level number r s =
    ap nodes_of_rel (term_of_rel_concat level number r s ∙ sym (T.rolls-Concat (rel_term_of level number r) (rel_term_of level number s))) ∙ fold-roll-RelTerm ℕ ℕ layer_nodes layer_nodes_rel (H.RelTerm::Concat (rel_term_of level number r) (rel_term_of level number s))

pub size_compose : (level : Level) (number : Class → ℕ) (r : RelExpr) (s : RelExpr) → nodes_of_rel (rel_term_of level number (R.Compose r s)) ≡ nodes_of_rel (rel_term_of level number r) + nodes_of_rel (rel_term_of level number s) + 1
size_compose level number r s =
    ap nodes_of_rel (term_of_compose level number r s ∙ sym (T.rolls-Compose (rel_term_of level number r) (rel_term_of level number s))) ∙ fold-roll-RelTerm ℕ ℕ layer_nodes layer_nodes_rel (H.Compose (rel_term_of level number r) (rel_term_of level number s))

pub size_equal : (level : Level) (number : Class → ℕ) (x : PathExpr) (y : PathExpr) → nodes_in (tree_of level number (A.Equal x y)) ≡ nodes_of_path (term_of level number x) + nodes_of_path (term_of level number y)
size_equal level number x y =
    ap nodes_in (tree_of_equal level number x y ∙ sym (W.rolls-Leaf (O.Equal (term_of level number x) (term_of level number y)))) ∙ fold-roll-Tree ℕ tree_layer_nodes (G.Leaf (O.Equal (term_of level number x) (term_of level number y)))

pub size_included : (level : Level) (number : Class → ℕ) (x : PathExpr) (y : PathExpr) → nodes_in (tree_of level number (A.Included x y)) ≡ nodes_of_path (term_of level number x) + nodes_of_path (term_of level number y)
size_included level number x y =
    ap nodes_in (tree_of_included level number x y ∙ sym (W.rolls-Leaf (O.Included (term_of level number x) (term_of level number y)))) ∙ fold-roll-Tree ℕ tree_layer_nodes (G.Leaf (O.Included (term_of level number x) (term_of level number y)))

pub size_and : (level : Level) (number : Class → ℕ) (a : AssertExpr) (b : AssertExpr) → nodes_in (tree_of level number (A.And a b)) ≡ nodes_in (tree_of level number a) + nodes_in (tree_of level number b)
size_and level number a b =
    ap nodes_in (tree_of_and level number a b ∙ sym (W.rolls-And (tree_of level number a) (tree_of level number b))) ∙ fold-roll-Tree ℕ tree_layer_nodes (G.And (tree_of level number a) (tree_of level number b))

pub size_or : (level : Level) (number : Class → ℕ) (a : AssertExpr) (b : AssertExpr) → nodes_in (tree_of level number (A.Or a b)) ≡ nodes_in (tree_of level number a) + nodes_in (tree_of level number b)
size_or level number a b =
    ap nodes_in (tree_of_or level number a b ∙ sym (W.rolls-Or (tree_of level number a) (tree_of level number b))) ∙ fold-roll-Tree ℕ tree_layer_nodes (G.Or (tree_of level number a) (tree_of level number b))

pub size_not : (level : Level) (number : Class → ℕ) (a : AssertExpr) → nodes_in (tree_of level number (A.Not a)) ≡ nodes_in (tree_of level number a)
size_not level number a =
    ap nodes_in (tree_of_not level number a ∙ sym (W.rolls-Not (tree_of level number a))) ∙ fold-roll-Tree ℕ tree_layer_nodes (G.Not (tree_of level number a))

pub ruleset size_forms = (size_none, size_empty, size_pre, size_post, size_all, size_member, size_union, size_concat, size_meet, size_star, size_complement, size_image, size_identity, size_product, size_rel_star, size_rel_union, size_rel_concat, size_compose, size_equal, size_included, size_and, size_or, size_not)
