-- The terms of a body name `drop` and the body's markers alone, by what is known of the forms of terms.
use Rattle.std.proofs.Common.{◌≡◌, ℕ, List, [], ◌∷◌, ◌++◌, sym, subst, arith}
use Rattle.std.proofs.lemmas.List.Elements.{Contains-append_left, Contains-append_right, Contains-get_or}
use Rattle.std.specs.Prelude.{Contains}
use Rattle.rela_rir.specs.declared.term.PathTerm.{PathTerm}
use Rattle.rela_rir.specs.declared.term.RelTerm.{RelTerm}
use Rattle.rela_rir.specs.declared.term.PathTerm.TheVariants as P
use Rattle.rela_rir.specs.declared.term.RelTerm.TheVariants as R
use Rattle.rela_translate.specs.Zones.{drop_symbol, marker_symbol}
use Rattle.rela_translate.specs.Terms.{layer_path, path_of, Terms, unit_terms, layer_terms, terms_of, zone_of, before_of, after_of, without, outside}
use Rattle.rela_translate.specs.Checked.{change_markers, layer_markers, markers_of}
use Rattle.rela_translate.specs.declared.body.Expr.{Expr}
use Rattle.rela_translate.specs.declared.body.Expr.TheOpen as E
use Rattle.rela_translate.specs.declared.body.Expr.TheViews.{roll-Expr}
use Rattle.rela_translate.specs.declared.body.Expr.TheFolds.{fold-roll-Expr, map-Expr, ind-Expr}
use Rattle.rela_translate.specs.declared.body.Change.{Change}
use Rattle.rela_translate.specs.declared.body.Change.TheVariants.{Preserve, Add, Remove, Replace, Drop, AnyOf, Ignore}
use Rattle.rela_translate.specs.declared.body.Core.{Core}
use Rattle.rela_translate.specs.declared.body.Core.TheOpen as C
use Rattle.rela_translate.specs.declared.body.Core.TheViews.{roll-Core}
use Rattle.rela_translate.specs.declared.body.Core.TheFolds.{map-Core, ind-Core, fold-roll-Core}
use Rattle.rela_build.specs.Named.{Names, NamedForms, NamesR}

path_roll : (x : E.Expr-F Expr) → path_of (roll-Expr x) ≡ layer_path (map-Expr Expr PathTerm path_of x)
path_roll x = fold-roll-Expr PathTerm layer_path x

terms_roll : (n : ℕ) (x : C.Core-F Core) → terms_of n (roll-Core x) ≡ layer_terms n (map-Core Core Terms (terms_of n) x)
terms_roll n x = fold-roll-Core Terms (layer_terms n) x

module _ (Q : ℕ → Type 0) (forms : NamedForms Q) where
  abbrev NamesIn : Expr → Type 0
  NamesIn e = Names Q (path_of e)

  by_path : (t t' : PathTerm) → t ≡ t' → Names Q t' → Names Q t
  by_path t t' is names = subst (Names Q) (sym is) names

  layer : (y : E.Expr-F ((e : Expr) × NamesIn e)) → NamesIn (roll-Expr (map-Expr ((e : Expr) × NamesIn e) Expr (λ e. e.0) y))
  layer E.Empty = by_path _ P.Empty (path_roll E.Empty) forms.empty
  layer (E.Class k) = by_path _ (P.Class k) (path_roll (E.Class k)) (forms.class k)
  layer (E.Seq a b) = by_path _ (P.Concat (path_of a.0) (path_of b.0)) (path_roll (E.Seq a.0 b.0)) ((forms.concat (path_of a.0) (path_of b.0)).1 (a.1, b.1))
  layer (E.Alt a b) = by_path _ (P.Union (path_of a.0) (path_of b.0)) (path_roll (E.Alt a.0 b.0)) ((forms.union (path_of a.0) (path_of b.0)).1 (a.1, b.1))
  layer (E.Meet a b) = by_path _ (P.Meet (path_of a.0) (path_of b.0)) (path_roll (E.Meet a.0 b.0)) ((forms.meet (path_of a.0) (path_of b.0)).1 (a.1, b.1))
  layer (E.Not a) = by_path _ (P.Complement (path_of a.0)) (path_roll (E.Not a.0)) ((forms.complement (path_of a.0)).1 a.1)
  layer (E.Star a) = by_path _ (P.Star (path_of a.0)) (path_roll (E.Star a.0)) ((forms.star (path_of a.0)).1 a.1)

  words : (e : Expr) → Names Q (path_of e)
  words = ind-Expr NamesIn (λ x y is. subst (λ z. NamesIn (roll-Expr z)) is (layer y))

  union : (x y : PathTerm) → Names Q x → Names Q y → Names Q (P.Union x y)
  union x y f g = (forms.union x y).1 (f, g)

  meet : (x y : PathTerm) → Names Q x → Names Q y → Names Q (P.Meet x y)
  meet x y f g = (forms.meet x y).1 (f, g)

  left_out : (x y : PathTerm) → Names Q x → Names Q y → Names Q (without x y)
  left_out x y f g = meet x (P.Complement y) f ((forms.complement y).1 g)

  one : (s : ℕ) → Q s → Names Q (P.One s)
  one s q = (forms.one s).1 q

  identity : (x : PathTerm) → Names Q x → NamesR Q (R.Identity x)
  identity x f = (forms.identity x).1 f

  product : (x y : PathTerm) → Names Q x → Names Q y → NamesR Q (R.Product x y)
  product x y f g = (forms.product x y).1 (f, g)

  union_r : (r s : RelTerm) → NamesR Q r → NamesR Q s → NamesR Q (R.Union r s)
  union_r r s f g = (forms.either r s).1 (f, g)

  outside_r : (x : PathTerm) (r : RelTerm) → Names Q x → NamesR Q r → NamesR Q (outside x r)
  outside_r x r f g = (forms.compose (R.Identity (P.Complement x)) r).1 (identity (P.Complement x) ((forms.complement x).1 f), g)

  -- the three terms name only symbols with Q
  record AreNamed (terms : Terms) : Type 0 where
    zone : Names Q terms.zone
    before : NamesR Q terms.before
    after : NamesR Q terms.after

  module _ (n : ℕ) (drop : Q (drop_symbol n)) where
    -- each marker of the list is a symbol with Q
    abbrev AreFine : List ℕ → Type 0
    AreFine markers = (k : ℕ) → Contains markers k → Q (marker_symbol n k)

    unit_named : (z : PathTerm) (c : Change) → Names Q z → AreFine (change_markers c) → AreNamed (unit_terms n z c)
    unit_named z Preserve f fine = record { zone = f; before = identity z f; after = identity z f }
    unit_named z (Add p) f fine =
        let all = union z (path_of p) f (words p) in record {
          zone = all;
          before = union_r (R.Identity (P.Union z (path_of p))) (R.Product z (path_of p)) (identity (P.Union z (path_of p)) all) (product z (path_of p) f (words p));
          after = identity (P.Union z (path_of p)) all;
        }
    unit_named z (Remove p) f fine = record { zone = f; before = identity (without z (path_of p)) (left_out z (path_of p) f (words p)); after = identity z f }
    unit_named z (Replace p q) f fine =
        let all = union z (path_of q) f (words q) in
        let old = meet (path_of p) z (words p) f in record {
          zone = all;
          before = union_r (R.Identity (without (P.Union z (path_of q)) (P.Meet (path_of p) z))) (R.Product (P.Meet (path_of p) z) (path_of q))
              (identity (without (P.Union z (path_of q)) (P.Meet (path_of p) z)) (left_out (P.Union z (path_of q)) (P.Meet (path_of p) z) all old))
              (product (P.Meet (path_of p) z) (path_of q) old (words q));
          after = identity (P.Union z (path_of q)) all;
        }
    unit_named z Drop f fine =
        let all = union z (P.One (drop_symbol n)) f (one (drop_symbol n) drop) in record {
          zone = all;
          before = product (P.Union z (P.One (drop_symbol n))) (P.One (drop_symbol n)) all (one (drop_symbol n) drop);
          after = identity (P.Union z (P.One (drop_symbol n))) all;
        }
    unit_named z (AnyOf p k) f fine =
        let all = union z (path_of p) f (words p) in
        let marked : Names Q (P.One (marker_symbol n k)) = one (marker_symbol n k) (fine k (Contains-get_or (k ∷ []) 0 0 (omega arith))) in record {
          zone = all;
          before = product (P.Union z (path_of p)) (P.One (marker_symbol n k)) all marked;
          after = union_r (R.Product (path_of p) (P.One (marker_symbol n k))) (R.Identity (without z (path_of p)))
              (product (path_of p) (P.One (marker_symbol n k)) (words p) marked)
              (identity (without z (path_of p)) (left_out z (path_of p) f (words p)));
        }
    unit_named z (Ignore p) f fine =
        let rest = identity (without z (path_of p)) (left_out z (path_of p) f (words p)) in record { zone = f; before = rest; after = rest }

    abbrev BodyNamed : Core → Type 0
    BodyNamed body = AreFine (markers_of body) → AreNamed (terms_of n body)

    markers_roll : (x : C.Core-F Core) → markers_of (roll-Core x) ≡ layer_markers (map-Core Core (List ℕ) markers_of x)
    markers_roll x = fold-roll-Core (List ℕ) layer_markers x

    by_terms : (t t' : Terms) → t ≡ t' → AreNamed t' → AreNamed t
    by_terms t t' is named = subst AreNamed (sym is) named

    front_fine : (xs ys : List ℕ) → AreFine (xs ++ ys) → AreFine xs
    front_fine xs ys fine k has = fine k (Contains-append_left xs ys k has)

    rest_fine : (xs ys : List ℕ) → AreFine (xs ++ ys) → AreFine ys
    rest_fine xs ys fine k has = fine k (Contains-append_right xs ys k has)

    layer_named : (y : C.Core-F ((body : Core) × BodyNamed body)) → BodyNamed (roll-Core (map-Core ((body : Core) × BodyNamed body) Core (λ e. e.0) y))
    layer_named (C.Unit z c) fine =
        by_terms _ (unit_terms n (path_of z) c) (terms_roll n (C.Unit z c)) (unit_named (path_of z) c (words z) (subst AreFine (markers_roll (C.Unit z c)) fine))
    layer_named (C.Then s t) fine =
        let both : AreFine (markers_of s.0 ++ markers_of t.0) = subst AreFine (markers_roll (C.Then s.0 t.0)) fine in
        let a = s.1 (front_fine (markers_of s.0) (markers_of t.0) both) in
        let b = t.1 (rest_fine (markers_of s.0) (markers_of t.0) both) in
        by_terms _ (layer_terms n (C.Then (terms_of n s.0) (terms_of n t.0))) (terms_roll n (C.Then s.0 t.0)) (record {
          zone = (forms.concat (zone_of n s.0) (zone_of n t.0)).1 (a.zone, b.zone);
          before = (forms.joined (before_of n s.0) (before_of n t.0)).1 (a.before, b.before);
          after = (forms.joined (after_of n s.0) (after_of n t.0)).1 (a.after, b.after);
        })
    layer_named (C.Else s t) fine =
        let both : AreFine (markers_of s.0 ++ markers_of t.0) = subst AreFine (markers_roll (C.Else s.0 t.0)) fine in
        let a = s.1 (front_fine (markers_of s.0) (markers_of t.0) both) in
        let b = t.1 (rest_fine (markers_of s.0) (markers_of t.0) both) in
        by_terms _ (layer_terms n (C.Else (terms_of n s.0) (terms_of n t.0))) (terms_roll n (C.Else s.0 t.0)) (record {
          zone = union (zone_of n s.0) (zone_of n t.0) a.zone b.zone;
          before = union_r (before_of n s.0) (outside (zone_of n s.0) (before_of n t.0)) a.before (outside_r (zone_of n s.0) (before_of n t.0) a.zone b.before);
          after = union_r (after_of n s.0) (outside (zone_of n s.0) (after_of n t.0)) a.after (outside_r (zone_of n s.0) (after_of n t.0) a.zone b.after);
        })

    named : (body : Core) → BodyNamed body
    named = ind-Core BodyNamed (λ x y is. subst (λ z. BodyNamed (roll-Core z)) is (layer_named y))

    pub before_names : (body : Core) → ((k : ℕ) → Contains (markers_of body) k → Q (marker_symbol n k)) → NamesR Q (before_of n body)
    before_names body fine = (named body fine).before

    pub after_names : (body : Core) → ((k : ℕ) → Contains (markers_of body) k → Q (marker_symbol n k)) → NamesR Q (after_of n body)
    after_names body fine = (named body fine).after

    pub zone_names : (body : Core) → ((k : ℕ) → Contains (markers_of body) k → Q (marker_symbol n k)) → Names Q (zone_of n body)
    zone_names body fine = (named body fine).zone
