-- A body has no more alternatives than its terms have nodes.
use Rattle.std.proofs.Common.{◌≡◌, ◌∙◌, ℕ, ◌+◌, ◌≤◌, List, length, map, Bor, arith, sym, ap, subst, length-append}
use Rattle.std.proofs.lemmas.List.{length-map}
use Rattle.rela_rir.specs.Size.{nodes_of_path, nodes_of_rel, layer_nodes, layer_nodes_rel}
use Rattle.rela_rir.specs.declared.term.PathTerm.{PathTerm}
use Rattle.rela_rir.specs.declared.term.RelTerm.{RelTerm}
use Rattle.rela_rir.specs.declared.term.PathTerm.TheOpen as F
use Rattle.rela_rir.specs.declared.term.PathTerm.TheVariants as P
use Rattle.rela_rir.specs.declared.term.RelTerm.TheVariants as R
use Rattle.rela_rir.specs.declared.term.PathTerm.TheViews.{roll-RelTerm}
use Rattle.rela_rir.specs.declared.term.PathTerm.TheFolds.{map-RelTerm, fold-roll-RelTerm}
use Rattle.rela_translate.specs.Checked.{Checked, IsCheck}
use Rattle.rela_translate.specs.Terms.{Terms, before_of, layer_terms, outside, path_of, terms_of, unit_terms}
use Rattle.rela_translate.specs.declared.body.Expr.{Expr}
use Rattle.rela_translate.specs.declared.body.Change.{Change}
use Rattle.rela_translate.specs.declared.body.Change.TheVariants.{Preserve, Add, Remove, Replace, Drop, AnyOf, Ignore}
use Rattle.rela_translate.specs.declared.body.Core.{Core}
use Rattle.rela_translate.specs.declared.body.Core.TheOpen as C
use Rattle.rela_translate.specs.declared.body.Core.TheVariants as B
use Rattle.rela_translate.specs.declared.body.Core.TheViews.{roll-Core}
use Rattle.rela_translate.specs.declared.body.Core.TheFolds.{fold-roll-Core, ind-Core, map-Core}
use Rattle.rela_branches.specs.Alternatives.{alternatives_of}
use Rattle.rela_branches.proofs.Forms.{alternatives_else, alternatives_then, alternatives_unit}

rolled : (x : F.RelTerm-F PathTerm RelTerm) → nodes_of_rel (roll-RelTerm x) ≡ layer_nodes_rel (map-RelTerm PathTerm RelTerm ℕ ℕ nodes_of_path nodes_of_rel x)
rolled x = fold-roll-RelTerm ℕ ℕ layer_nodes layer_nodes_rel x

nodes_identity : (x : PathTerm) → nodes_of_rel (R.Identity x) ≡ nodes_of_path x + 1
nodes_identity x = ap nodes_of_rel (sym (R.rolls-Identity x)) ∙ rolled (F.Identity x)

nodes_product : (x y : PathTerm) → nodes_of_rel (R.Product x y) ≡ nodes_of_path x + nodes_of_path y + 1
nodes_product x y = ap nodes_of_rel (sym (R.rolls-Product x y)) ∙ rolled (F.Product x y)

nodes_union : (r s : RelTerm) → nodes_of_rel (R.Union r s) ≡ nodes_of_rel r + nodes_of_rel s + 1
nodes_union r s = ap nodes_of_rel (sym (R.rolls-Union r s)) ∙ rolled (F.RelTerm::Union r s)

nodes_concat : (r s : RelTerm) → nodes_of_rel (R.Concat r s) ≡ nodes_of_rel r + nodes_of_rel s + 1
nodes_concat r s = ap nodes_of_rel (sym (R.rolls-Concat r s)) ∙ rolled (F.RelTerm::Concat r s)

nodes_compose : (r s : RelTerm) → nodes_of_rel (R.Compose r s) ≡ nodes_of_rel r + nodes_of_rel s + 1
nodes_compose r s = ap nodes_of_rel (sym (R.rolls-Compose r s)) ∙ rolled (F.Compose r s)

one_identity : (x : PathTerm) → 1 ≤ nodes_of_rel (R.Identity x)
one_identity x = let e = nodes_identity x in omega arith

one_product : (x y : PathTerm) → 1 ≤ nodes_of_rel (R.Product x y)
one_product x y = let e = nodes_product x y in omega arith

one_union : (r s : RelTerm) → 1 ≤ nodes_of_rel (R.Union r s)
one_union r s = let e = nodes_union r s in omega arith

module _ (n : ℕ) where
  unit_has_one : (z : PathTerm) (c : Change) → 1 ≤ nodes_of_rel (unit_terms n z c).before
  unit_has_one z Preserve = one_identity _
  unit_has_one z (Add p) = one_union _ _
  unit_has_one z (Remove p) = one_identity _
  unit_has_one z (Replace p q) = one_union _ _
  unit_has_one z Drop = one_product _ _
  unit_has_one z (AnyOf p k) = one_product _ _
  unit_has_one z (Ignore p) = one_identity _

  before : Terms → RelTerm
  before terms = terms.before

  rolled_terms : (x : C.Core-F Core) → terms_of n (roll-Core x) ≡ layer_terms n (map-Core Core Terms (terms_of n) x)
  rolled_terms x = fold-roll-Core Terms (layer_terms n) x

  before_unit : (z : Expr) (c : Change) → before_of n (B.Unit z c) ≡ (unit_terms n (path_of z) c).before
  unfolding before
  before_unit z c = ap before (ap (terms_of n) (sym (B.rolls-Unit z c)) ∙ rolled_terms (C.Unit z c))

  before_then : (s t : Core) → before_of n (B.Then s t) ≡ R.Concat (before_of n s) (before_of n t)
  unfolding before
  before_then s t = ap before (ap (terms_of n) (sym (B.rolls-Then s t)) ∙ rolled_terms (C.Then s t))

  before_else : (s t : Core) → before_of n (B.Else s t) ≡ R.Union (before_of n s) (outside (terms_of n s).zone (before_of n t))
  unfolding before
  before_else s t = ap before (ap (terms_of n) (sym (B.rolls-Else s t)) ∙ rolled_terms (C.Else s t))

  abbrev IsSmall : Core → Type 0
  IsSmall body = length (alternatives_of body) ≤ nodes_of_rel (before_of n body)

  small_unit : (z : Expr) (c : Change) → IsSmall (B.Unit z c)
  small_unit z c =
      let one = ap length (alternatives_unit z c) in
      let nodes = ap nodes_of_rel (before_unit z c) in
      let some = unit_has_one (path_of z) c in omega arith

  small_then : (s t : Core) → IsSmall (B.Then s t)
  small_then s t =
      let one = ap length (alternatives_then s t) in
      let nodes = ap nodes_of_rel (before_then s t) ∙ nodes_concat (before_of n s) (before_of n t) in omega arith

  small_else : (s t : Core) → IsSmall s → IsSmall t → IsSmall (B.Else s t)
  small_else s t in_s in_t =
      let all : length (alternatives_of (B.Else s t)) ≡ length (alternatives_of s) + length (alternatives_of t) =
      ap length (alternatives_else s t) ∙ length-append (alternatives_of s) (alternatives_of t) in
      let rest = outside (terms_of n s).zone (before_of n t) in
      let nodes = ap nodes_of_rel (before_else s t) ∙ nodes_union (before_of n s) rest in
      let behind = nodes_compose (R.Identity (P.Complement (terms_of n s).zone)) (before_of n t) in omega arith

  layer : (y : C.Core-F ((body : Core) × IsSmall body)) → IsSmall (roll-Core (map-Core ((body : Core) × IsSmall body) Core (λ e. e.0) y))
  layer (C.Unit z c) = subst IsSmall (sym (B.rolls-Unit z c)) (small_unit z c)
  layer (C.Then s t) = subst IsSmall (sym (B.rolls-Then s.0 t.0)) (small_then s.0 t.0)
  layer (C.Else s t) = subst IsSmall (sym (B.rolls-Else s.0 t.0)) (small_else s.0 t.0 s.1 t.1)

  pub small : (body : Core) → length (alternatives_of body) ≤ nodes_of_rel (before_of n body)
  small = ind-Core IsSmall (λ x y is. subst (λ (z : C.Core-F Core). IsSmall (roll-Core z)) is (layer y))

-- a check has at most 20,000 alternatives
pub few : (check : Checked) → IsCheck check → length (alternatives_of check.body) ≤ 20000
few check is = let nodes = is.few_nodes 0 in let at_most = small 0 check.body in omega arith

pub few_items : (check : Checked) (items : List (Bor Core)) → IsCheck check → map (λ (b : Bor Core). b.now) items ≡ alternatives_of check.body → length items ≤ 20000
few_items check items is whole =
    let at_most = few check is in
    let same : length items ≡ length (alternatives_of check.body) = sym (length-map items (λ (b : Bor Core). b.now)) ∙ ap length whole in omega arith
