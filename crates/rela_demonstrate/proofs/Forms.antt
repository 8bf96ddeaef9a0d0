-- The terms and the sizes of the forms that the specification of the layered input has.
use Rattle.std.proofs.Common.{◌≡◌, ◌∙◌, ℕ, ◌+◌, max, sym, ap}
use Rattle.rela_rir.specs.Size.{nodes_of_path, nodes_of_rel, depth_of_path, depth_of_rel}
use Rattle.rela_rir.specs.declared.term.PathTerm.{PathTerm}
use Rattle.rela_rir.specs.declared.term.PathTerm.TheVariants as P
use Rattle.rela_rir.specs.declared.term.RelTerm.{RelTerm}
use Rattle.rela_rir.specs.declared.term.RelTerm.TheVariants as R
use Rattle.rela_translate.specs.Terms.{layer_path, layer_terms, path_of, terms_of, unit_terms, Terms}
use Rattle.rela_translate.specs.declared.body.Change.{Change}
use Rattle.rela_translate.specs.declared.body.Core.{Core}
use Rattle.rela_translate.specs.declared.body.Core.TheFolds.{fold-roll-Core}
use Rattle.rela_translate.specs.declared.body.Core.TheOpen as C
use Rattle.rela_translate.specs.declared.body.Core.TheVariants as core
use Rattle.rela_translate.specs.declared.body.Expr.{Expr}
use Rattle.rela_translate.specs.declared.body.Expr.TheFolds.{fold-roll-Expr}
use Rattle.rela_translate.specs.declared.body.Expr.TheOpen as E
use Rattle.rela_translate.specs.declared.body.Expr.TheVariants as expr

pub path_class : (k : ℕ) → path_of (expr.Class k) ≡ P.Class k
path_class k = ap path_of (sym (expr.rolls-Class k)) ∙ fold-roll-Expr PathTerm layer_path (E.Class k)

pub path_star : (a : Expr) → path_of (expr.Star a) ≡ P.Star (path_of a)
path_star a = ap path_of (sym (expr.rolls-Star a)) ∙ fold-roll-Expr PathTerm layer_path (E.Star a)

pub terms_unit : (n : ℕ) (zone : Expr) (change : Change) → terms_of n (core.Unit zone change) ≡ unit_terms n (path_of zone) change
terms_unit n zone change = ap (terms_of n) (sym (core.rolls-Unit zone change)) ∙ fold-roll-Core Terms (layer_terms n) (C.Unit zone change)

pub terms_then : (n : ℕ) (s t : Core) → terms_of n (core.Then s t) ≡ layer_terms n (C.Then (terms_of n s) (terms_of n t))
terms_then n s t = ap (terms_of n) (sym (core.rolls-Then s t)) ∙ fold-roll-Core Terms (layer_terms n) (C.Then s t)

pub terms_else : (n : ℕ) (s t : Core) → terms_of n (core.Else s t) ≡ layer_terms n (C.Else (terms_of n s) (terms_of n t))
terms_else n s t = ap (terms_of n) (sym (core.rolls-Else s t)) ∙ fold-roll-Core Terms (layer_terms n) (C.Else s t)

-- the sizes of terms, by the laws of `rela_rir`
pub record Sizes : Type 0 where
  pub nodes_of_class : (k : ℕ) → nodes_of_path (P.Class k) ≡ 1
  pub depth_of_class : (k : ℕ) → depth_of_path (P.Class k) ≡ 1
  pub nodes_of_one : (s : ℕ) → nodes_of_path (P.One s) ≡ 1
  pub depth_of_one : (s : ℕ) → depth_of_path (P.One s) ≡ 1
  pub nodes_of_union : (x y : PathTerm) → nodes_of_path (P.Union x y) ≡ nodes_of_path x + nodes_of_path y + 1
  pub depth_of_union : (x y : PathTerm) → depth_of_path (P.Union x y) ≡ max (depth_of_path x) (depth_of_path y) + 1
  pub nodes_of_concat : (x y : PathTerm) → nodes_of_path (P.Concat x y) ≡ nodes_of_path x + nodes_of_path y + 1
  pub depth_of_concat : (x y : PathTerm) → depth_of_path (P.Concat x y) ≡ max (depth_of_path x) (depth_of_path y) + 1
  pub nodes_of_star : (x : PathTerm) → nodes_of_path (P.Star x) ≡ nodes_of_path x + 1
  pub depth_of_star : (x : PathTerm) → depth_of_path (P.Star x) ≡ depth_of_path x + 1
  pub nodes_of_complement : (x : PathTerm) → nodes_of_path (P.Complement x) ≡ nodes_of_path x + 1
  pub depth_of_complement : (x : PathTerm) → depth_of_path (P.Complement x) ≡ depth_of_path x + 1
  pub nodes_of_identity : (x : PathTerm) → nodes_of_rel (R.Identity x) ≡ nodes_of_path x + 1
  pub depth_of_identity : (x : PathTerm) → depth_of_rel (R.Identity x) ≡ depth_of_path x + 1
  pub nodes_of_product : (x y : PathTerm) → nodes_of_rel (R.Product x y) ≡ nodes_of_path x + nodes_of_path y + 1
  pub depth_of_product : (x y : PathTerm) → depth_of_rel (R.Product x y) ≡ max (depth_of_path x) (depth_of_path y) + 1
  pub nodes_of_rel_union : (r s : RelTerm) → nodes_of_rel (R.Union r s) ≡ nodes_of_rel r + nodes_of_rel s + 1
  pub depth_of_rel_union : (r s : RelTerm) → depth_of_rel (R.Union r s) ≡ max (depth_of_rel r) (depth_of_rel s) + 1
  pub nodes_of_rel_concat : (r s : RelTerm) → nodes_of_rel (R.Concat r s) ≡ nodes_of_rel r + nodes_of_rel s + 1
  pub depth_of_rel_concat : (r s : RelTerm) → depth_of_rel (R.Concat r s) ≡ max (depth_of_rel r) (depth_of_rel s) + 1
  pub nodes_of_compose : (r s : RelTerm) → nodes_of_rel (R.Compose r s) ≡ nodes_of_rel r + nodes_of_rel s + 1
  pub depth_of_compose : (r s : RelTerm) → depth_of_rel (R.Compose r s) ≡ max (depth_of_rel r) (depth_of_rel s) + 1
