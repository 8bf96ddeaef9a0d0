-- What each form of assertion becomes.
use Rattle.std.proofs.Common.{◌≡◌, ◌∙◌, ℕ, sym, ap}
use Rattle.rela_names.specs.declared.level.Level.{Level}
use Rattle.rela_rir.specs.declared.assertion.Assertion.TheVariants as O
use Rattle.rela_rirfile.specs.declared.written.AssertExpr.{AssertExpr}
use Rattle.rela_rirfile.specs.declared.written.AssertExpr.TheOpen as B
use Rattle.rela_rirfile.specs.declared.written.AssertExpr.TheVariants as A
use Rattle.rela_rirfile.specs.declared.written.AssertExpr.TheFolds.{fold-roll-AssertExpr}
use Rattle.rela_rirfile.specs.declared.written.PathExpr.{PathExpr}
use Rattle.rela_claims.specs.Classes.{Class}
use Rattle.rela_claims.specs.Terms.{term_of, tree_of, tree_layer_tree}
use Rattle.rela_claims.specs.declared.claim.Tree.{Tree}
use Rattle.rela_claims.specs.declared.claim.Tree.TheVariants as W

pub tree_of_equal : (level : Level) (number : Class → ℕ) (x : PathExpr) (y : PathExpr) → tree_of level number (A.Equal x y) ≡ W.Leaf (O.Equal (term_of level number x) (term_of level number y))
tree_of_equal level number x y = ap (tree_of level number) (sym (A.rolls-Equal x y)) ∙ fold-roll-AssertExpr Tree (tree_layer_tree level number) (B.Equal x y)

pub tree_of_included : (level : Level) (number : Class → ℕ) (x : PathExpr) (y : PathExpr) → tree_of level number (A.Included x y) ≡ W.Leaf (O.Included (term_of level number x) (term_of level number y))
tree_of_included level number x y = ap (tree_of level number) (sym (A.rolls-Included x y)) ∙ fold-roll-AssertExpr Tree (tree_layer_tree level number) (B.Included x y)

pub tree_of_and : (level : Level) (number : Class → ℕ) (a : AssertExpr) (b : AssertExpr) → tree_of level number (A.And a b) ≡ W.And (tree_of level number a) (tree_of level number b)
tree_of_and level number a b = ap (tree_of level number) (sym (A.rolls-And a b)) ∙ fold-roll-AssertExpr Tree (tree_layer_tree level number) (B.And a b)

pub tree_of_or : (level : Level) (number : Class → ℕ) (a : AssertExpr) (b : AssertExpr) → tree_of level number (A.Or a b) ≡ W.Or (tree_of level number a) (tree_of level number b)
tree_of_or level number a b = ap (tree_of level number) (sym (A.rolls-Or a b)) ∙ fold-roll-AssertExpr Tree (tree_layer_tree level number) (B.Or a b)

pub tree_of_not : (level : Level) (number : Class → ℕ) (a : AssertExpr) → tree_of level number (A.Not a) ≡ W.Not (tree_of level number a)
tree_of_not level number a = ap (tree_of level number) (sym (A.rolls-Not a)) ∙ fold-roll-AssertExpr Tree (tree_layer_tree level number) (B.Not a)

pub ruleset tree_forms = (tree_of_equal, tree_of_included, tree_of_and, tree_of_or, tree_of_not)
