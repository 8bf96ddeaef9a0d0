-- The terms of an expression and of a body have the words and the pairs that these mean.
use Rattle.std.proofs.Common.{◌≡◌, ◌∙◌, ℕ, ap, List, sym, subst}
use Rattle.std.specs.Prelude.{◌↔◌, Result, Ok, Err, IfOk}
use Rattle.rela_rir.specs.Words.{WordSet, Relation, Star, ImageOf}
use Rattle.rela_rir.specs.Meaning.{Setting, In, InR, IsPathWord}
use Rattle.rela_translate.proofs.Inclusions as within
use Rattle.rela_translate.proofs.Inclusions.{Within}
use Rattle.rela_translate.proofs.TermMeanings.{in_empty, in_class, in_star, in_pre, in_post, in_image}
use Rattle.rela_rir.specs.declared.set.SymbolSet.{SymbolSet}
use Rattle.rela_rir.specs.declared.term.PathTerm.{PathTerm}
use Rattle.rela_rir.specs.declared.term.RelTerm.{RelTerm}
use Rattle.rela_rir.specs.declared.term.PathTerm.TheVariants as P
use Rattle.rela_rir.specs.declared.term.RelTerm.TheVariants as R
use Rattle.rela_translate.specs.Lang.{Lang}
use Rattle.rela_translate.specs.Zones.{Meaning, path_symbols, drop_symbol, marker_symbol, Single, Either, Common, Without, Same, Pairs, EitherPair, Outside, Paths, unit_meaning, meaning_of, Zone, Before, After}
use Rattle.rela_translate.specs.Terms.{path_of, Terms, unit_terms, terms_of, zone_of, before_of, after_of, without, outside}
use Rattle.rela_translate.specs.Settings.{setting, bare}
use Rattle.rela_translate.proofs.TermForms.{path_roll, terms_roll}
use Rattle.rela_translate.proofs.MeaningForms.{lang_roll, meaning_roll}
use Rattle.rela_translate.proofs.Claims.{Claims, of_paths, claims, either_words}
use Rattle.rela_translate.proofs.Equals as equals
use Rattle.rela_translate.proofs.Equals.{Equal, EqualR}
use Rattle.rela_translate.specs.declared.body.Expr.{Expr}
use Rattle.rela_translate.specs.declared.body.Expr.TheOpen as E
use Rattle.rela_translate.specs.declared.body.Expr.TheViews.{roll-Expr}
use Rattle.rela_translate.specs.declared.body.Expr.TheFolds.{map-Expr, ind-Expr}
use Rattle.rela_translate.specs.declared.body.Change.{Change}
use Rattle.rela_translate.specs.declared.body.Change.TheVariants.{Preserve, Add, Remove, Replace, Drop, AnyOf, Ignore}
use Rattle.rela_translate.specs.declared.body.Core.{Core}
use Rattle.rela_translate.specs.declared.body.Core.TheOpen as C
use Rattle.rela_translate.specs.declared.body.Core.TheViews.{roll-Core}
use Rattle.rela_translate.specs.declared.body.Core.TheFolds.{map-Core, ind-Core}

-- the term of the expression has its words
abbrev Means : Setting → Expr → Type 0
Means m e = Equal (In m (path_of e)) (Lang m.classes m.path_symbols e)

by_forms : (m : Setting) (t t' : PathTerm) (X Y : WordSet) → t ≡ t' → X ≡ Y → Equal (In m t') Y → Equal (In m t) X
by_forms m t t' X Y term lang same =
    subst (λ (x : PathTerm). Equal (In m x) X) (sym term) (subst (λ (Z : WordSet). Equal (In m t') Z) (sym lang) same)

layer : (m : Setting) (y : E.Expr-F ((e : Expr) × Means m e)) → Means m (roll-Expr (map-Expr ((e : Expr) × Means m e) Expr (λ e. e.0) y))
layer m E.Empty =
    by_forms m _ _ _ _ (path_roll E.Empty) (lang_roll m.classes m.path_symbols E.Empty)
    (equals.told _ _ _ (in_empty m) (λ w x. x, λ w x. x))
layer m (E.Class k) =
    by_forms m _ _ _ _ (path_roll (E.Class k)) (lang_roll m.classes m.path_symbols (E.Class k))
    (equals.told _ _ _ (in_class m k) (λ w x. x, λ w x. x))
layer m (E.Seq a b) =
    by_forms m _ _ _ _ (path_roll (E.Seq a.0 b.0)) (lang_roll m.classes m.path_symbols (E.Seq a.0 b.0))
    (equals.concat m (path_of a.0) (path_of b.0) (Lang m.classes m.path_symbols a.0) (Lang m.classes m.path_symbols b.0) a.1 b.1)
layer m (E.Alt a b) =
    by_forms m _ _ _ _ (path_roll (E.Alt a.0 b.0)) (lang_roll m.classes m.path_symbols (E.Alt a.0 b.0))
    (equals.union m (path_of a.0) (path_of b.0) (Lang m.classes m.path_symbols a.0) (Lang m.classes m.path_symbols b.0) a.1 b.1)
layer m (E.Meet a b) =
    by_forms m _ _ _ _ (path_roll (E.Meet a.0 b.0)) (lang_roll m.classes m.path_symbols (E.Meet a.0 b.0))
    (equals.meet m (path_of a.0) (path_of b.0) (Lang m.classes m.path_symbols a.0) (Lang m.classes m.path_symbols b.0) a.1 b.1)
layer m (E.Not a) =
    by_forms m _ _ _ _ (path_roll (E.Not a.0)) (lang_roll m.classes m.path_symbols (E.Not a.0))
    (equals.complement m (path_of a.0) (Lang m.classes m.path_symbols a.0) a.1)
layer m (E.Star a) =
    by_forms m _ _ _ _ (path_roll (E.Star a.0)) (lang_roll m.classes m.path_symbols (E.Star a.0))
    (equals.told _ _ (Star (Lang m.classes m.path_symbols a.0)) (in_star m (path_of a.0)) (
      within.star (In m (path_of a.0)) (Lang m.classes m.path_symbols a.0) a.1.0,
      within.star (Lang m.classes m.path_symbols a.0) (In m (path_of a.0)) a.1.1,
    ))

pub means : (m : Setting) (e : Expr) → Equal (In m (path_of e)) (Lang m.classes m.path_symbols e)
means m = ind-Expr (Means m) (λ x y is. subst (λ z. Means m (roll-Expr z)) is (layer m y))

-- the terms of a zone and of two relations have their words and pairs
pub record Stands (m : Setting) (terms : Terms) (zone : List ℕ → Type 0) (before after : List ℕ → List ℕ → Type 0) : Type 0 where
  pub zone_is : Equal (In m terms.zone) zone
  pub before_is : EqualR (InR m terms.before) before
  pub after_is : EqualR (InR m terms.after) after

abbrev StandsFor : Setting → Terms → Meaning → Type 0
StandsFor m terms meaning = Stands m terms meaning.zone meaning.before meaning.after

module _ (classes : List SymbolSet) (n : ℕ) (pre post : List ℕ → Type 0) where
  abbrev here : Setting
  here = setting classes n pre post

  abbrev words : Expr → WordSet
  words e = Paths classes n e

  has : (e : Expr) → Equal (In here (path_of e)) (words e)
  has e = means here e

  unit_stands : (z : PathTerm) (Z : WordSet) (c : Change) → Equal (In here z) Z → Within Z (IsPathWord (path_symbols n)) →
      StandsFor here (unit_terms n z c) (unit_meaning classes n Z c)
  unit_stands z Z Preserve f paths = record {
    zone_is = f;
    before_is = equals.identity here z Z f;
    after_is = equals.identity here z Z f;
  }
  unit_stands z Z (Add p) f paths =
      let all : Equal (In here (P.Union z (path_of p))) (Either Z (words p)) = equals.union here z (path_of p) Z (words p) f (has p) in record {
        zone_is = all;
        before_is = equals.union_r here (R.Identity (P.Union z (path_of p))) (R.Product z (path_of p)) (Same (Either Z (words p))) (Pairs Z (words p))
            (equals.identity here (P.Union z (path_of p)) (Either Z (words p)) all)
            (equals.product here z (path_of p) Z (words p) f (has p));
        after_is = equals.identity here (P.Union z (path_of p)) (Either Z (words p)) all;
      }
  unit_stands z Z (Remove p) f paths = record {
    zone_is = f;
    before_is = equals.identity here (without z (path_of p)) (Without Z (words p)) (equals.left_out here z (path_of p) Z (words p) f (has p) paths);
    after_is = equals.identity here z Z f;
  }
  unit_stands z Z (Replace p q) f paths =
      let all : Equal (In here (P.Union z (path_of q))) (Either Z (words q)) = equals.union here z (path_of q) Z (words q) f (has q) in
      let old : Equal (In here (P.Meet (path_of p) z)) (Common (words p) Z) = equals.meet here (path_of p) z (words p) Z (has p) f in
      let kept : Equal (In here (without (P.Union z (path_of q)) (P.Meet (path_of p) z))) (Without (Either Z (words q)) (Common (words p) Z)) =
      equals.left_out here (P.Union z (path_of q)) (P.Meet (path_of p) z) (Either Z (words q)) (Common (words p) Z) all old
      (either_words (path_symbols n) Z (words q) paths (of_paths classes (path_symbols n) q)) in record {
        zone_is = all;
        before_is = equals.union_r here (R.Identity (without (P.Union z (path_of q)) (P.Meet (path_of p) z))) (R.Product (P.Meet (path_of p) z) (path_of q))
            (Same (Without (Either Z (words q)) (Common (words p) Z))) (Pairs (Common (words p) Z) (words q))
            (equals.identity here (without (P.Union z (path_of q)) (P.Meet (path_of p) z)) (Without (Either Z (words q)) (Common (words p) Z)) kept)
            (equals.product here (P.Meet (path_of p) z) (path_of q) (Common (words p) Z) (words q) old (has q));
        after_is = equals.identity here (P.Union z (path_of q)) (Either Z (words q)) all;
      }
  unit_stands z Z Drop f paths =
      let all : Equal (In here (P.Union z (P.One (drop_symbol n)))) (Either Z (Single (drop_symbol n))) =
      equals.union here z (P.One (drop_symbol n)) Z (Single (drop_symbol n)) f (equals.one here (drop_symbol n)) in record {
        zone_is = all;
        before_is = equals.product here (P.Union z (P.One (drop_symbol n))) (P.One (drop_symbol n)) (Either Z (Single (drop_symbol n))) (Single (drop_symbol n))
            all (equals.one here (drop_symbol n));
        after_is = equals.identity here (P.Union z (P.One (drop_symbol n))) (Either Z (Single (drop_symbol n))) all;
      }
  unit_stands z Z (AnyOf p k) f paths =
      let all : Equal (In here (P.Union z (path_of p))) (Either Z (words p)) = equals.union here z (path_of p) Z (words p) f (has p) in record {
        zone_is = all;
        before_is = equals.product here (P.Union z (path_of p)) (P.One (marker_symbol n k)) (Either Z (words p)) (Single (marker_symbol n k))
            all (equals.one here (marker_symbol n k));
        after_is = equals.union_r here (R.Product (path_of p) (P.One (marker_symbol n k))) (R.Identity (without z (path_of p)))
            (Pairs (words p) (Single (marker_symbol n k))) (Same (Without Z (words p)))
            (equals.product here (path_of p) (P.One (marker_symbol n k)) (words p) (Single (marker_symbol n k)) (has p) (equals.one here (marker_symbol n k)))
            (equals.identity here (without z (path_of p)) (Without Z (words p)) (equals.left_out here z (path_of p) Z (words p) f (has p) paths));
      }
  unit_stands z Z (Ignore p) f paths =
      let kept : EqualR (InR here (R.Identity (without z (path_of p)))) (Same (Without Z (words p))) =
      equals.identity here (without z (path_of p)) (Without Z (words p)) (equals.left_out here z (path_of p) Z (words p) f (has p) paths) in record {
        zone_is = f;
        before_is = kept;
        after_is = kept;
      }

  abbrev BodyStands : Core → Type 0
  BodyStands body = StandsFor here (terms_of n body) (meaning_of classes n body)

  by_body : (t t' : Terms) (M N : Meaning) → t ≡ t' → M ≡ N → StandsFor here t' N → StandsFor here t M
  by_body t t' M N terms meaning stands =
      subst (λ (x : Terms). StandsFor here x M) (sym terms) (subst (λ (x : Meaning). StandsFor here t' x) (sym meaning) stands)

  else_relation : (s t : Core) (r q : RelTerm) (X Y : Relation) → BodyStands s → EqualR (InR here r) X → EqualR (InR here q) Y →
      ((u v : List ℕ) → Y u v → IsPathWord (path_symbols n) u) →
      EqualR (InR here (R.Union r (outside (zone_of n s) q))) (EitherPair X (Outside (Zone classes n s) Y))
  else_relation s t r q X Y stands f g paths =
      equals.union_r here r (outside (zone_of n s) q) X (Outside (Zone classes n s) Y) f
      (equals.outside_r here (zone_of n s) q (Zone classes n s) Y stands.zone_is g paths)

  layer_body : (y : C.Core-F ((body : Core) × BodyStands body)) → BodyStands (roll-Core (map-Core ((body : Core) × BodyStands body) Core (λ e. e.0) y))
  layer_body (C.Unit z c) =
      by_body _ _ _ _ (terms_roll n (C.Unit z c)) (meaning_roll classes n (C.Unit z c))
      (unit_stands (path_of z) (words z) c (has z) (of_paths classes (path_symbols n) z))
  layer_body (C.Then s t) =
      by_body _ _ _ _ (terms_roll n (C.Then s.0 t.0)) (meaning_roll classes n (C.Then s.0 t.0)) (record {
        zone_is = equals.concat here (zone_of n s.0) (zone_of n t.0) (Zone classes n s.0) (Zone classes n t.0) s.1.zone_is t.1.zone_is;
        before_is = equals.concat_r here (before_of n s.0) (before_of n t.0) (Before classes n s.0) (Before classes n t.0) s.1.before_is t.1.before_is;
        after_is = equals.concat_r here (after_of n s.0) (after_of n t.0) (After classes n s.0) (After classes n t.0) s.1.after_is t.1.after_is;
      })
  layer_body (C.Else s t) =
      let claimed : Claims (path_symbols n) (Zone classes n t.0) (Before classes n t.0) (After classes n t.0) = claims classes n t.0 in
      by_body _ _ _ _ (terms_roll n (C.Else s.0 t.0)) (meaning_roll classes n (C.Else s.0 t.0)) (record {
        zone_is = equals.union here (zone_of n s.0) (zone_of n t.0) (Zone classes n s.0) (Zone classes n t.0) s.1.zone_is t.1.zone_is;
        before_is = else_relation s.0 t.0 (before_of n s.0) (before_of n t.0) (Before classes n s.0) (Before classes n t.0) s.1 s.1.before_is t.1.before_is
            (λ u v r. claimed.words u (claimed.before_in u v r));
        after_is = else_relation s.0 t.0 (after_of n s.0) (after_of n t.0) (After classes n s.0) (After classes n t.0) s.1 s.1.after_is t.1.after_is
            (λ u v r. claimed.words u (claimed.after_in u v r));
      })

  stands : (body : Core) → BodyStands body
  stands = ind-Core BodyStands (λ x y is. subst (λ z. BodyStands (roll-Core z)) is (layer_body y))

  pub zone_means : (body : Core) (w : List ℕ) → In here (zone_of n body) w ↔ Zone classes n body w
  zone_means body w = ((stands body).zone_is.0 w, (stands body).zone_is.1 w)

  pub before_means : (body : Core) (u v : List ℕ) → InR here (before_of n body) u v ↔ Before classes n body u v
  before_means body u v = ((stands body).before_is.0 u v, (stands body).before_is.1 u v)

  pub after_means : (body : Core) (u v : List ℕ) → InR here (after_of n body) u v ↔ After classes n body u v
  after_means body u v = ((stands body).after_is.0 u v, (stands body).after_is.1 u v)

-- a setting is the one of its parts
as_setting : (m : Setting) (n : ℕ) → m.path_symbols ≡ path_symbols n → m ≡ setting m.classes n m.pre m.post
as_setting m n fits = ap (λ (k : ℕ). record { classes = m.classes; path_symbols = k; pre = m.pre; post = m.post }) fits

pub zone_in : (m : Setting) (n : ℕ) (body : Core) → m.path_symbols ≡ path_symbols n → (w : List ℕ) → In m (zone_of n body) w ↔ Zone m.classes n body w
zone_in m n body fits w =
    subst (λ (s : Setting). In s (zone_of n body) w ↔ Zone m.classes n body w) (sym (as_setting m n fits)) (zone_means m.classes n m.pre m.post body w)

pub before_in : (m : Setting) (n : ℕ) (body : Core) → m.path_symbols ≡ path_symbols n → (u v : List ℕ) →
    InR m (before_of n body) u v ↔ Before m.classes n body u v
before_in m n body fits u v =
    subst (λ (s : Setting). InR s (before_of n body) u v ↔ Before m.classes n body u v) (sym (as_setting m n fits)) (before_means m.classes n m.pre m.post body u v)

pub after_in : (m : Setting) (n : ℕ) (body : Core) → m.path_symbols ≡ path_symbols n → (u v : List ℕ) →
    InR m (after_of n body) u v ↔ After m.classes n body u v
after_in m n body fits u v =
    subst (λ (s : Setting). InR s (after_of n body) u v ↔ After m.classes n body u v) (sym (as_setting m n fits)) (after_means m.classes n m.pre m.post body u v)

image_in : (m : Setting) (x : PathTerm) (r : RelTerm) (X : WordSet) (R : Relation) → Equal (In m x) X → EqualR (InR m r) R → (v : List ℕ) →
    In m (P.Image x r) v ↔ ImageOf X R v
image_in m x r X R f g v =
    let same : Equal (In m (P.Image x r)) (ImageOf X R) =
    equals.told _ _ (ImageOf X R) (in_image m x r) (within.image (In m x) X (InR m r) R f.0 g.0, within.image X (In m x) R (InR m r) f.1 g.1) in
    (same.0 v, same.1 v)

pub before_image_in : (m : Setting) (n : ℕ) (body : Core) → m.path_symbols ≡ path_symbols n → (v : List ℕ) →
    In m (P.Image P.Pre (before_of n body)) v ↔ ImageOf m.pre (Before m.classes n body) v
before_image_in m n body fits v =
    image_in m P.Pre (before_of n body) m.pre (Before m.classes n body) (equals.told _ _ m.pre (in_pre m) (λ w x. x, λ w x. x))
    (λ u v r. (before_in m n body fits u v).0 r, λ u v r. (before_in m n body fits u v).1 r) v

pub after_image_in : (m : Setting) (n : ℕ) (body : Core) → m.path_symbols ≡ path_symbols n → (v : List ℕ) →
    In m (P.Image P.Post (after_of n body)) v ↔ ImageOf m.post (After m.classes n body) v
after_image_in m n body fits v =
    image_in m P.Post (after_of n body) m.post (After m.classes n body) (equals.told _ _ m.post (in_post m) (λ w x. x, λ w x. x))
    (λ u v r. (after_in m n body fits u v).0 r, λ u v r. (after_in m n body fits u v).1 r) v

pub before_told : (classes : List SymbolSet) (n : ℕ) (body x : Core) (r : RelTerm) → x ≡ body → r ≡ before_of n x → (u v : List ℕ) →
    InR (bare classes n) r u v ↔ Before classes n body u v
before_told classes n body x r same is u v =
    subst (λ (s : RelTerm). InR (bare classes n) s u v ↔ Before classes n body u v) (sym (is ∙ ap (before_of n) same))
    (before_means classes n (λ w. ⊥) (λ w. ⊥) body u v)

pub after_told : (classes : List SymbolSet) (n : ℕ) (body x : Core) (r : RelTerm) → x ≡ body → r ≡ after_of n x → (u v : List ℕ) →
    InR (bare classes n) r u v ↔ After classes n body u v
after_told classes n body x r same is u v =
    subst (λ (s : RelTerm). InR (bare classes n) s u v ↔ After classes n body u v) (sym (is ∙ ap (after_of n) same))
    (after_means classes n (λ w. ⊥) (λ w. ⊥) body u v)

pub zone_told : {E : Type 0} (classes : List SymbolSet) (n : ℕ) (body x : Core) (r : Result PathTerm E) → x ≡ body →
    IfOk r (λ t. t ≡ zone_of n x) → IfOk r (λ t. (w : List ℕ) → In (bare classes n) t w ↔ Zone classes n body w)
zone_told classes n body x (Ok t) same is =
    λ w.
    subst (λ (s : PathTerm). In (bare classes n) s w ↔ Zone classes n body w) (sym (is ∙ ap (zone_of n) same))
    (zone_means classes n (λ w. ⊥) (λ w. ⊥) body w)
zone_told classes n body x (Err e) same is = tt
