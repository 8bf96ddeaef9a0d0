-- The terms of a body name neither path set, by what is known of the forms of terms.
use Rattle.std.proofs.Common.{◌≡◌, ℕ, sym, subst}
use Rattle.rela_rir.specs.Fixed.{FixedForms, IsFixed, IsFixedR}
use Rattle.rela_rir.specs.declared.term.PathTerm.{PathTerm}
use Rattle.rela_rir.specs.declared.term.RelTerm.{RelTerm}
use Rattle.rela_rir.specs.declared.term.PathTerm.TheVariants as P
use Rattle.rela_rir.specs.declared.term.RelTerm.TheVariants as R
use Rattle.rela_translate.specs.Zones.{drop_symbol, marker_symbol}
use Rattle.rela_translate.specs.Terms.{path_of, Terms, unit_terms, layer_terms, terms_of, zone_of, before_of, after_of, without, outside}
use Rattle.rela_translate.proofs.TermForms.{path_roll, terms_roll}
use Rattle.rela_translate.specs.declared.body.Expr.{Expr}
use Rattle.rela_translate.specs.declared.body.Expr.TheOpen as E
use Rattle.rela_translate.specs.declared.body.Expr.TheViews.{roll-Expr}
use Rattle.rela_translate.specs.declared.body.Expr.TheFolds.{map-Expr, ind-Expr}
use Rattle.rela_translate.specs.declared.body.Change.{Change}
use Rattle.rela_translate.specs.declared.body.Change.TheVariants.{Preserve, Add, Remove, Replace, Drop, AnyOf, Ignore}
use Rattle.rela_translate.specs.declared.body.Core.{Core}
use Rattle.rela_translate.specs.declared.body.Core.TheOpen as C
use Rattle.rela_translate.specs.declared.body.Core.TheViews.{roll-Core}
use Rattle.rela_translate.specs.declared.body.Core.TheFolds.{map-Core, ind-Core}

module _ (forms : FixedForms) where
  union : (x y : PathTerm) → IsFixed x → IsFixed y → IsFixed (P.Union x y)
  union x y f g = (forms.union x y).1 (f, g)

  concat : (x y : PathTerm) → IsFixed x → IsFixed y → IsFixed (P.Concat x y)
  concat x y f g = (forms.concat x y).1 (f, g)

  meet : (x y : PathTerm) → IsFixed x → IsFixed y → IsFixed (P.Meet x y)
  meet x y f g = (forms.meet x y).1 (f, g)

  complement : (x : PathTerm) → IsFixed x → IsFixed (P.Complement x)
  complement x f = (forms.complement x).1 f

  left_out : (x y : PathTerm) → IsFixed x → IsFixed y → IsFixed (without x y)
  left_out x y f g = meet x (P.Complement y) f (complement y g)

  identity : (x : PathTerm) → IsFixed x → IsFixedR (R.Identity x)
  identity x f = (forms.identity x).1 f

  product : (x y : PathTerm) → IsFixed x → IsFixed y → IsFixedR (R.Product x y)
  product x y f g = (forms.product x y).1 (f, g)

  union_r : (r s : RelTerm) → IsFixedR r → IsFixedR s → IsFixedR (R.Union r s)
  union_r r s f g = (forms.either r s).1 (f, g)

  concat_r : (r s : RelTerm) → IsFixedR r → IsFixedR s → IsFixedR (R.Concat r s)
  concat_r r s f g = (forms.joined r s).1 (f, g)

  outside_r : (x : PathTerm) (r : RelTerm) → IsFixed x → IsFixedR r → IsFixedR (outside x r)
  outside_r x r f g = (forms.compose (R.Identity (P.Complement x)) r).1 (identity (P.Complement x) (complement x f), g)

  -- ---- path expressions

  abbrev IsFixedIn : Expr → Type 0
  IsFixedIn e = IsFixed (path_of e)

  by_path : (t t' : PathTerm) → t ≡ t' → IsFixed t' → IsFixed t
  by_path t t' is fixed = subst IsFixed (sym is) fixed

  layer : (y : E.Expr-F ((e : Expr) × IsFixedIn e)) → IsFixedIn (roll-Expr (map-Expr ((e : Expr) × IsFixedIn e) Expr (λ e. e.0) y))
  layer E.Empty = by_path _ P.Empty (path_roll E.Empty) forms.empty
  layer (E.Class k) = by_path _ (P.Class k) (path_roll (E.Class k)) (forms.class k)
  layer (E.Seq a b) = by_path _ (P.Concat (path_of a.0) (path_of b.0)) (path_roll (E.Seq a.0 b.0)) (concat (path_of a.0) (path_of b.0) a.1 b.1)
  layer (E.Alt a b) = by_path _ (P.Union (path_of a.0) (path_of b.0)) (path_roll (E.Alt a.0 b.0)) (union (path_of a.0) (path_of b.0) a.1 b.1)
  layer (E.Meet a b) = by_path _ (P.Meet (path_of a.0) (path_of b.0)) (path_roll (E.Meet a.0 b.0)) (meet (path_of a.0) (path_of b.0) a.1 b.1)
  layer (E.Not a) = by_path _ (P.Complement (path_of a.0)) (path_roll (E.Not a.0)) (complement (path_of a.0) a.1)
  layer (E.Star a) =
      by_path _ (P.Star (path_of a.0)) (path_roll (E.Star a.0))
      ((forms.star (path_of a.0)).1 a.1)

  words : (e : Expr) → IsFixed (path_of e)
  words = ind-Expr IsFixedIn (λ x y is. subst (λ z. IsFixedIn (roll-Expr z)) is (layer y))

  -- ---- bodies

  -- the three terms name neither path set
  record AreFixed (terms : Terms) : Type 0 where
    zone : IsFixed terms.zone
    before : IsFixedR terms.before
    after : IsFixedR terms.after

  module _ (n : ℕ) where
    unit_fixed : (z : PathTerm) (c : Change) → IsFixed z → AreFixed (unit_terms n z c)
    unit_fixed z Preserve f = record { zone = f; before = identity z f; after = identity z f }
    unit_fixed z (Add p) f =
        let all = union z (path_of p) f (words p) in record {
          zone = all;
          before = union_r (R.Identity (P.Union z (path_of p))) (R.Product z (path_of p)) (identity (P.Union z (path_of p)) all) (product z (path_of p) f (words p));
          after = identity (P.Union z (path_of p)) all;
        }
    unit_fixed z (Remove p) f = record { zone = f; before = identity (without z (path_of p)) (left_out z (path_of p) f (words p)); after = identity z f }
    unit_fixed z (Replace p q) f =
        let all = union z (path_of q) f (words q) in
        let old = meet (path_of p) z (words p) f in record {
          zone = all;
          before = union_r (R.Identity (without (P.Union z (path_of q)) (P.Meet (path_of p) z))) (R.Product (P.Meet (path_of p) z) (path_of q))
              (identity (without (P.Union z (path_of q)) (P.Meet (path_of p) z)) (left_out (P.Union z (path_of q)) (P.Meet (path_of p) z) all old))
              (product (P.Meet (path_of p) z) (path_of q) old (words q));
          after = identity (P.Union z (path_of q)) all;
        }
    unit_fixed z Drop f =
        let all = union z (P.One (drop_symbol n)) f (forms.one (drop_symbol n)) in record {
          zone = all;
          before = product (P.Union z (P.One (drop_symbol n))) (P.One (drop_symbol n)) all (forms.one (drop_symbol n));
          after = identity (P.Union z (P.One (drop_symbol n))) all;
        }
    unit_fixed z (AnyOf p k) f =
        let all = union z (path_of p) f (words p) in
        let marked = forms.one (marker_symbol n k) in record {
          zone = all;
          before = product (P.Union z (path_of p)) (P.One (marker_symbol n k)) all marked;
          after = union_r (R.Product (path_of p) (P.One (marker_symbol n k))) (R.Identity (without z (path_of p)))
              (product (path_of p) (P.One (marker_symbol n k)) (words p) marked)
              (identity (without z (path_of p)) (left_out z (path_of p) f (words p)));
        }
    unit_fixed z (Ignore p) f =
        let rest = identity (without z (path_of p)) (left_out z (path_of p) f (words p)) in record { zone = f; before = rest; after = rest }

    abbrev BodyFixed : Core → Type 0
    BodyFixed body = AreFixed (terms_of n body)

    by_terms : (t t' : Terms) → t ≡ t' → AreFixed t' → AreFixed t
    by_terms t t' is fixed = subst AreFixed (sym is) fixed

    layer_fixed : (y : C.Core-F ((body : Core) × BodyFixed body)) → BodyFixed (roll-Core (map-Core ((body : Core) × BodyFixed body) Core (λ e. e.0) y))
    layer_fixed (C.Unit z c) = by_terms _ (unit_terms n (path_of z) c) (terms_roll n (C.Unit z c)) (unit_fixed (path_of z) c (words z))
    layer_fixed (C.Then s t) =
        let a = s.1 in
        let b = t.1 in
        by_terms _ (layer_terms n (C.Then (terms_of n s.0) (terms_of n t.0))) (terms_roll n (C.Then s.0 t.0)) (record {
          zone = concat (zone_of n s.0) (zone_of n t.0) a.zone b.zone;
          before = concat_r (before_of n s.0) (before_of n t.0) a.before b.before;
          after = concat_r (after_of n s.0) (after_of n t.0) a.after b.after;
        })
    layer_fixed (C.Else s t) =
        let a = s.1 in
        let b = t.1 in
        by_terms _ (layer_terms n (C.Else (terms_of n s.0) (terms_of n t.0))) (terms_roll n (C.Else s.0 t.0)) (record {
          zone = union (zone_of n s.0) (zone_of n t.0) a.zone b.zone;
          before = union_r (before_of n s.0) (outside (zone_of n s.0) (before_of n t.0)) a.before (outside_r (zone_of n s.0) (before_of n t.0) a.zone b.before);
          after = union_r (after_of n s.0) (outside (zone_of n s.0) (after_of n t.0)) a.after (outside_r (zone_of n s.0) (after_of n t.0) a.zone b.after);
        })

    fixed : (body : Core) → BodyFixed body
    fixed = ind-Core BodyFixed (λ x y is. subst (λ z. BodyFixed (roll-Core z)) is (layer_fixed y))

    pub before_fixed : (body : Core) → IsFixedR (before_of n body)
    before_fixed body = (fixed body).before

    pub after_fixed : (body : Core) → IsFixedR (after_of n body)
    after_fixed body = (fixed body).after

  pub zone_fixed : (n : ℕ) (body : Core) → IsFixed (zone_of n body)
  zone_fixed n body = (fixed n body).zone
