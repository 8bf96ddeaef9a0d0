-- The terms of a numbered body are as large as its shape says.
use Rattle.std.proofs.Common.{◌≡◌, ◌∙◌, ℕ, ◌+◌, refl, ap, ap₂}
use Rattle.rela_rir.specs.declared.term.PathTerm.{PathTerm}
use Rattle.rela_rir.specs.declared.term.RelTerm.{RelTerm}
use Rattle.rela_rir.specs.declared.term.PathTerm.TheVariants as P
use Rattle.rela_rir.specs.declared.term.RelTerm.TheVariants as R
use Rattle.rela_spec.specs.declared.tree.Modifier.{Modifier}
use Rattle.rela_spec.specs.declared.tree.Modifier.TheVariants as m
use Rattle.rela_expand.specs.Measures.{Measure, leaf, over, over_two, measure_of, Measures, over_without, modifier_measures, unit_measures, over_outside, body_measures, of_path, of_rel, of_terms}
use Rattle.rela_expand.specs.Numbered.{numbered, numbered_change, numbered_body}
use Rattle.rela_expand.specs.Numbering.{Numbering}
use Rattle.rela_expand.specs.Places.{Place}
use Rattle.rela_expand.specs.Shapes.{Shape, Empty, Class, Seq, Alt, Meet, Not, Star, BodyShape, Unit as Unit', Then, Else}
use Rattle.rela_translate.specs.Terms.{path_of, unit_terms, terms_of, without, outside}
use Rattle.rela_translate.specs.Zones.{drop_symbol, marker_symbol}
use Rattle.rela_expand.proofs.Layers.{path_empty, path_class, path_seq, path_alt, path_meet, path_not, path_star, terms_unit, terms_then, terms_else}

pub pair : {a b c d : ℕ} → a ≡ b → c ≡ d → (let x : Measure = record { nodes = a; depth = c } in x) ≡ record { nodes = b; depth = d }
pair p q = λ i. record { nodes = p i; depth = q i }

-- What the laws of the sizes of terms say, of nodes and depth at once.
pub record AreSizes : Type 0 where
  pub empty : of_path P.Empty ≡ leaf
  pub class : (k : ℕ) → of_path (P.Class k) ≡ leaf
  pub one : (s : ℕ) → of_path (P.One s) ≡ leaf
  pub union : (x y : PathTerm) → of_path (P.Union x y) ≡ over_two (of_path x) (of_path y)
  pub concat : (x y : PathTerm) → of_path (P.Concat x y) ≡ over_two (of_path x) (of_path y)
  pub meet : (x y : PathTerm) → of_path (P.Meet x y) ≡ over_two (of_path x) (of_path y)
  pub complement : (x : PathTerm) → of_path (P.Complement x) ≡ over (of_path x)
  pub star : (x : PathTerm) → of_path (P.Star x) ≡ over (of_path x)
  pub identity : (x : PathTerm) → of_rel (R.Identity x) ≡ over (of_path x)
  pub product : (x y : PathTerm) → of_rel (R.Product x y) ≡ over_two (of_path x) (of_path y)
  pub union_r : (r s : RelTerm) → of_rel (R.Union r s) ≡ over_two (of_rel r) (of_rel s)
  pub concat_r : (r s : RelTerm) → of_rel (R.Concat r s) ≡ over_two (of_rel r) (of_rel s)
  pub compose : (r s : RelTerm) → of_rel (R.Compose r s) ≡ over_two (of_rel r) (of_rel s)

module _ (sizes : AreSizes) where
  either : (x y : PathTerm) {a b : Measure} → of_path x ≡ a → of_path y ≡ b → of_path (P.Union x y) ≡ over_two a b
  either x y p q = sizes.union x y ∙ ap₂ over_two p q

  common : (x y : PathTerm) {a b : Measure} → of_path x ≡ a → of_path y ≡ b → of_path (P.Meet x y) ≡ over_two a b
  common x y p q = sizes.meet x y ∙ ap₂ over_two p q

  less : (x y : PathTerm) {a b : Measure} → of_path x ≡ a → of_path y ≡ b → of_path (without x y) ≡ over_without a b
  less x y p q = common x (P.Complement y) p (sizes.complement y ∙ ap over q)

  kept : (x : PathTerm) {a : Measure} → of_path x ≡ a → of_rel (R.Identity x) ≡ over a
  kept x p = sizes.identity x ∙ ap over p

  pairs : (x y : PathTerm) {a b : Measure} → of_path x ≡ a → of_path y ≡ b → of_rel (R.Product x y) ≡ over_two a b
  pairs x y p q = sizes.product x y ∙ ap₂ over_two p q

  both : (r s : RelTerm) {a b : Measure} → of_rel r ≡ a → of_rel s ≡ b → of_rel (R.Union r s) ≡ over_two a b
  both r s p q = sizes.union_r r s ∙ ap₂ over_two p q

  beyond : (x : PathTerm) (r : RelTerm) {a b : Measure} → of_path x ≡ a → of_rel r ≡ b → of_rel (outside x r) ≡ over_outside a b
  beyond x r p q = sizes.compose (R.Identity (P.Complement x)) r ∙ ap₂ over_two (kept (P.Complement x) (sizes.complement x ∙ ap over p)) q

  -- an expression has the size of its shape
  pub path_measure : (place : Place) (s : Shape) (n : Numbering) → of_path (path_of (numbered place s n).value) ≡ measure_of s
  path_measure place Empty n = ap of_path path_empty ∙ sizes.empty
  path_measure place (Class negated members) n = ap of_path (path_class _) ∙ sizes.class _
  path_measure place (Seq a b) n = ap of_path (path_seq _ _) ∙ sizes.concat _ _ ∙ ap₂ over_two (path_measure place a n) (path_measure place b (numbered place a n).after)
  path_measure place (Alt a b) n = ap of_path (path_alt _ _) ∙ sizes.union _ _ ∙ ap₂ over_two (path_measure place a n) (path_measure place b (numbered place a n).after)
  path_measure place (Meet a b) n = ap of_path (path_meet _ _) ∙ sizes.meet _ _ ∙ ap₂ over_two (path_measure place a n) (path_measure place b (numbered place a n).after)
  path_measure place (Not a) n = ap of_path (path_not _) ∙ sizes.complement _ ∙ ap over (path_measure place a n)
  path_measure place (Star a) n = ap of_path (path_star _) ∙ sizes.star _ ∙ ap over (path_measure place a n)

  three : {a a' b b' c c' : Measure} → a ≡ a' → b ≡ b' → c ≡ c' → (let x : Measures = record { zone = a; before = b; after = c } in x) ≡ record { zone = a'; before = b'; after = c' }
  three p q r = λ i. record { zone = p i; before = q i; after = r i }

  unit_measure : (place : Place) (locations : ℕ) (z : PathTerm) (a : Measure) (c : Modifier Shape) (n : Numbering) → of_path z ≡ a
      → of_terms (unit_terms locations z (numbered_change place c n).value) ≡ unit_measures a (modifier_measures c)
  unit_measure place locations z a m.Preserve n h = three h (kept z h) (kept z h)
  unit_measure place locations z a (m.Add p) n h =
      let x = path_of (numbered place p n).value in
      let k = path_measure place p n in
      three (either z x h k) (both (R.Identity (P.Union z x)) (R.Product z x) (kept (P.Union z x) (either z x h k)) (pairs z x h k)) (kept (P.Union z x) (either z x h k))
  unit_measure place locations z a (m.Remove p) n h =
      let x = path_of (numbered place p n).value in
      three h (kept (without z x) (less z x h (path_measure place p n))) (kept z h)
  unit_measure place locations z a (m.Replace p q) n h =
      let x = path_of (numbered place p n).value in
      let y = path_of (numbered place q (numbered place p n).after).value in
      let k = path_measure place p n in
      let l = path_measure place q (numbered place p n).after in
      let kept_paths = less (P.Union z y) (P.Meet x z) (either z y h l) (common x z k h) in
      three (either z y h l)
      (both (R.Identity (without (P.Union z y) (P.Meet x z))) (R.Product (P.Meet x z) y) (kept (without (P.Union z y) (P.Meet x z)) kept_paths) (pairs (P.Meet x z) y (common x z k h) l))
      (kept (P.Union z y) (either z y h l))
  unit_measure place locations z a m.Drop n h =
      let d = P.One (drop_symbol locations) in
      let l = sizes.one (drop_symbol locations) in
      three (either z d h l) (pairs (P.Union z d) d (either z d h l) l) (kept (P.Union z d) (either z d h l))
  unit_measure place locations z a (m.AnyOf p) n h =
      let x = path_of (numbered place p n).value in
      let k = path_measure place p n in
      let s = marker_symbol locations ((numbered place p n).after.markers + 1) in
      three (either z x h k) (pairs (P.Union z x) (P.One s) (either z x h k) (sizes.one s))
      (both (R.Product x (P.One s)) (R.Identity (without z x)) (pairs x (P.One s) k (sizes.one s)) (kept (without z x) (less z x h k)))
  unit_measure place locations z a (m.Ignore p) n h =
      let x = path_of (numbered place p n).value in
      let k = less z x h (path_measure place p n) in
      three h (kept (without z x) k) (kept (without z x) k)

  -- the terms of a body have the sizes of its shape
  pub body_measure : (place : Place) (locations : ℕ) (s : BodyShape) (n : Numbering) → of_terms (terms_of locations (numbered_body place s n).value) ≡ body_measures s
  body_measure place locations (Unit' z c) n =
      ap of_terms (terms_unit locations (numbered place z n).value (numbered_change place c (numbered place z n).after).value)
      ∙ unit_measure place locations (path_of (numbered place z n).value) (measure_of z) c (numbered place z n).after (path_measure place z n)
  body_measure place locations (Then a b) n =
      let s = terms_of locations (numbered_body place a n).value in
      let t = terms_of locations (numbered_body place b (numbered_body place a n).after).value in
      let h = body_measure place locations a n in
      let k = body_measure place locations b (numbered_body place a n).after in
      ap of_terms (terms_then locations (numbered_body place a n).value (numbered_body place b (numbered_body place a n).after).value)
      ∙ three (sizes.concat s.zone t.zone) (sizes.concat_r s.before t.before) (sizes.concat_r s.after t.after)
      ∙ ap₂ (λ (x y : Measures). let z : Measures = record { zone = over_two x.zone y.zone; before = over_two x.before y.before; after = over_two x.after y.after } in z) h k
  body_measure place locations (Else a b) n =
      let s = terms_of locations (numbered_body place a n).value in
      let t = terms_of locations (numbered_body place b (numbered_body place a n).after).value in
      let h = body_measure place locations a n in
      let k = body_measure place locations b (numbered_body place a n).after in
      ap of_terms (terms_else locations (numbered_body place a n).value (numbered_body place b (numbered_body place a n).after).value)
      ∙ three (sizes.union s.zone t.zone)
      (both s.before (outside s.zone t.before) refl (beyond s.zone t.before refl refl))
      (both s.after (outside s.zone t.after) refl (beyond s.zone t.after refl refl))
      ∙ ap₂ (λ (x y : Measures). let z : Measures = record {
        zone = over_two x.zone y.zone;
        before = over_two x.before (over_outside x.zone y.before);
        after = over_two x.after (over_outside x.zone y.after);
      } in z) h k
