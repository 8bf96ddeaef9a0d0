-- The complemented parts of each form of term, as equations; and what holds of some complement holds of some part
-- among them.
use Rattle.std.proofs.Common.{◌≡◌, ◌⊎◌, inl, inr, List, [], ◌∷◌, ◌++◌, refl, sym, ap, subst, arith}
use Rattle.std.specs.Prelude.{◌↔◌}
use Rattle.std.specs.List.{Contains}
use Rattle.std.proofs.lemmas.List.Elements.{Contains-append_left, Contains-append_right, Contains-append_cases, Contains-push, Contains-push_cases}
use Rattle.rela_rir.specs.Complements.{parts_of_layer, parts_of_layer_r, Parts, complemented_parts, complemented_parts_r, layer_parts, layer_parts_r}
use Rattle.rela_rir.specs.Limit.{LayerSome, LayerSomeR, SomeSubterm, SomeSubtermR}
use Rattle.rela_rir.proofs.Subterms.{some_roll, some_roll_r}
use Rattle.rela_rir.specs.declared.term.PathTerm.{PathTerm}
use Rattle.rela_rir.specs.declared.term.RelTerm.{RelTerm}
use Rattle.rela_rir.specs.declared.term.PathTerm.TheOpen as F
use Rattle.rela_rir.specs.declared.term.PathTerm.TheViews.{roll-PathTerm, roll-RelTerm, out-PathTerm, out-roll-PathTerm}
use Rattle.rela_rir.specs.declared.term.PathTerm.TheFolds.{map-PathTerm, map-RelTerm, ind-PathTerm, ind-RelTerm, rec-roll-PathTerm, rec-roll-RelTerm}

natural : (X Y : Type 0) (v : X → PathTerm) (v' : Y → RelTerm) (k : PathTerm → Parts) (k' : RelTerm → Parts) (x : F.PathTerm-F X Y) →
    parts_of_layer X Y v (λ p. k (v p)) (λ p. k' (v' p)) x ≡ parts_of_layer PathTerm RelTerm (λ y. y) k k' (map-PathTerm X Y PathTerm RelTerm v v' x)
natural X Y v v' k k' F.None = refl
natural X Y v v' k k' F.Empty = refl
natural X Y v v' k k' (F.Class n) = refl
natural X Y v v' k k' (F.One s) = refl
natural X Y v v' k k' (F.PathTerm::Union a b) = refl
natural X Y v v' k k' (F.PathTerm::Concat a b) = refl
natural X Y v v' k k' (F.PathTerm::Star a) = refl
natural X Y v v' k k' (F.Meet a b) = refl
natural X Y v v' k k' (F.Complement a) = refl
natural X Y v v' k k' F.Pre = refl
natural X Y v v' k k' F.Post = refl
natural X Y v v' k k' (F.Image a r) = refl

natural_r : (X Y : Type 0) (v : X → PathTerm) (v' : Y → RelTerm) (k : PathTerm → Parts) (k' : RelTerm → Parts) (x : F.RelTerm-F X Y) →
    parts_of_layer_r X Y v (λ p. k (v p)) (λ p. k' (v' p)) x ≡ parts_of_layer_r PathTerm RelTerm (λ y. y) k k' (map-RelTerm X Y PathTerm RelTerm v v' x)
natural_r X Y v v' k k' (F.Identity a) = refl
natural_r X Y v v' k k' (F.Product a b) = refl
natural_r X Y v v' k k' (F.RelTerm::Union r s) = refl
natural_r X Y v v' k k' (F.RelTerm::Concat r s) = refl
natural_r X Y v v' k k' (F.RelTerm::Star r) = refl
natural_r X Y v v' k k' (F.Compose r s) = refl

pub parts_roll : (z : F.PathTerm-F PathTerm RelTerm) → complemented_parts (roll-PathTerm z) ≡ layer_parts (λ y. y) complemented_parts complemented_parts_r z
parts_roll z =
    ap (λ (c : Parts). c.parts)
    (rec-roll-PathTerm Parts Parts (λ X Y term _ inside inside_r z. parts_of_layer X Y term inside inside_r z) (λ X Y term _ inside inside_r z. parts_of_layer_r X Y term inside inside_r z) natural z)

pub parts_roll_r : (z : F.RelTerm-F PathTerm RelTerm) → complemented_parts_r (roll-RelTerm z) ≡ layer_parts_r (λ y. y) complemented_parts complemented_parts_r z
parts_roll_r z =
    ap (λ (c : Parts). c.parts)
    (rec-roll-RelTerm Parts Parts (λ X Y term _ inside inside_r z. parts_of_layer X Y term inside inside_r z) (λ X Y term _ inside inside_r z. parts_of_layer_r X Y term inside inside_r z) natural_r z)

-- some part of the list has D
abbrev pub SomePart : (PathTerm → Type 0) → List PathTerm → Type 0
SomePart D parts = (part : PathTerm) × Contains parts part × D part

-- the layer is the complement of a part that has D
abbrev pub LayerComplements : (PathTerm → Type 0) → F.PathTerm-F PathTerm RelTerm → Type 0
LayerComplements D (F.Complement x) = D x
LayerComplements D _ = ⊥

module _ (D : PathTerm → Type 0) where
  -- some complement in the term has such a part
  abbrev pub Complements : PathTerm → Type 0
  Complements = SomeSubterm (λ t. LayerComplements D (out-PathTerm t)) (λ r. ⊥)

  abbrev pub ComplementsR : RelTerm → Type 0
  ComplementsR = SomeSubtermR (λ t. LayerComplements D (out-PathTerm t)) (λ r. ⊥)

  no_part : SomePart D [] → ⊥
  no_part some = absurd (omega (arith, some.1.1))

  leaf : (⊥ ⊎ ⊥) ↔ SomePart D []
  leaf = ((λ never. elim never [ inl bad ↦ absurd bad | inr bad ↦ absurd bad ]), λ some. absurd (no_part some))

  only : {A : Type 0} (xs : List PathTerm) → A ↔ SomePart D xs → (⊥ ⊎ A) ↔ SomePart D xs
  only xs a = ((λ has. elim has [ inl never ↦ absurd never | inr some ↦ a.0 some ]), λ some. inr (a.1 some))

  joined : {A B : Type 0} (xs ys : List PathTerm) → A ↔ SomePart D xs → B ↔ SomePart D ys → (⊥ ⊎ (A ⊎ B)) ↔ SomePart D (xs ++ ys)
  joined {A} {B} xs ys a b = (there, back) where
    there : ⊥ ⊎ (A ⊎ B) → SomePart D (xs ++ ys)
    there (inl never) = absurd never
    there (inr (inl has)) = (let some = a.0 has in (some.0, Contains-append_left xs ys some.0 some.1, some.2))
    there (inr (inr has)) = (let some = b.0 has in (some.0, Contains-append_right xs ys some.0 some.1, some.2))

    back : SomePart D (xs ++ ys) → ⊥ ⊎ (A ⊎ B)
    back some = elim (Contains-append_cases xs ys some.0 some.1) [
      | inl one ↦ inr (inl (a.1 (some.0, one, some.2)))
      | inr two ↦ inr (inr (b.1 (some.0, two, some.2)))
    ]

  whole : {A : Type 0} (xs : List PathTerm) (x : PathTerm) → A ↔ SomePart D xs → (D x ⊎ A) ↔ SomePart D (xs ++ x ∷ [])
  whole {A} xs x a = (there, back) where
    there : D x ⊎ A → SomePart D (xs ++ x ∷ [])
    there (inl has) = (x, Contains-push xs x, has)
    there (inr has) = (let some = a.0 has in (some.0, Contains-append_left xs (x ∷ []) some.0 some.1, some.2))

    back : SomePart D (xs ++ x ∷ []) → D x ⊎ A
    back some = elim (Contains-push_cases xs x some.0 some.1) [
      | inl one ↦ inr (a.1 (some.0, one, some.2))
      | inr is ↦ inl (subst D (sym is) some.2)
    ]

  abbrev ByParts : PathTerm → Type 0
  ByParts x = Complements x ↔ SomePart D (complemented_parts x)

  abbrev ByPartsR : RelTerm → Type 0
  ByPartsR r = ComplementsR r ↔ SomePart D (complemented_parts_r r)

  abbrev Path : Type 0
  Path = (x : PathTerm) × ByParts x

  abbrev Related : Type 0
  Related = (r : RelTerm) × ByPartsR r

  abbrev plain : F.PathTerm-F Path Related → F.PathTerm-F PathTerm RelTerm
  plain y = map-PathTerm Path Related PathTerm RelTerm (λ e. e.0) (λ e. e.0) y

  abbrev plain_r : F.RelTerm-F Path Related → F.RelTerm-F PathTerm RelTerm
  plain_r y = map-RelTerm Path Related PathTerm RelTerm (λ e. e.0) (λ e. e.0) y

  by_layer : (y : F.PathTerm-F Path Related) → (LayerComplements D (plain y) ⊎ LayerSome Complements ComplementsR (plain y)) ↔ SomePart D (layer_parts (λ x. x) complemented_parts complemented_parts_r (plain y))
  by_layer F.None = leaf
  by_layer F.Empty = leaf
  by_layer (F.Class n) = leaf
  by_layer (F.One s) = leaf
  by_layer (F.PathTerm::Union a b) = joined _ _ a.1 b.1
  by_layer (F.PathTerm::Concat a b) = joined _ _ a.1 b.1
  by_layer (F.PathTerm::Star a) = only _ a.1
  by_layer (F.Meet a b) = joined _ _ a.1 b.1
  by_layer (F.Complement a) = whole _ a.0 a.1
  by_layer F.Pre = leaf
  by_layer F.Post = leaf
  by_layer (F.Image a r) = joined _ _ a.1 r.1

  by_layer_r : (y : F.RelTerm-F Path Related) → (⊥ ⊎ LayerSomeR Complements ComplementsR (plain_r y)) ↔ SomePart D (layer_parts_r (λ x. x) complemented_parts complemented_parts_r (plain_r y))
  by_layer_r (F.Identity a) = only _ a.1
  by_layer_r (F.Product a b) = joined _ _ a.1 b.1
  by_layer_r (F.RelTerm::Union r t) = joined _ _ r.1 t.1
  by_layer_r (F.RelTerm::Concat r t) = joined _ _ r.1 t.1
  by_layer_r (F.RelTerm::Star r) = only _ r.1
  by_layer_r (F.Compose r t) = joined _ _ r.1 t.1

  by_roll : (z : F.PathTerm-F PathTerm RelTerm) → (LayerComplements D z ⊎ LayerSome Complements ComplementsR z) ↔ SomePart D (layer_parts (λ x. x) complemented_parts complemented_parts_r z) → ByParts (roll-PathTerm z)
  by_roll z by =
      subst (λ (T : Type 0). T ↔ SomePart D (complemented_parts (roll-PathTerm z))) (sym (some_roll (λ t. LayerComplements D (out-PathTerm t)) (λ r. ⊥) z))
      (subst (λ (o : F.PathTerm-F PathTerm RelTerm). (LayerComplements D o ⊎ LayerSome Complements ComplementsR z) ↔ SomePart D (complemented_parts (roll-PathTerm z))) (sym (out-roll-PathTerm z))
      (subst (λ (xs : List PathTerm). (LayerComplements D z ⊎ LayerSome Complements ComplementsR z) ↔ SomePart D xs) (sym (parts_roll z)) by))

  by_roll_r : (z : F.RelTerm-F PathTerm RelTerm) → (⊥ ⊎ LayerSomeR Complements ComplementsR z) ↔ SomePart D (layer_parts_r (λ x. x) complemented_parts complemented_parts_r z) → ByPartsR (roll-RelTerm z)
  by_roll_r z by =
      subst (λ (T : Type 0). T ↔ SomePart D (complemented_parts_r (roll-RelTerm z))) (sym (some_roll_r (λ t. LayerComplements D (out-PathTerm t)) (λ r. ⊥) z))
      (subst (λ (xs : List PathTerm). (⊥ ⊎ LayerSomeR Complements ComplementsR z) ↔ SomePart D xs) (sym (parts_roll_r z)) by)

  pub by_parts : (x : PathTerm) → Complements x ↔ SomePart D (complemented_parts x)
  by_parts =
      ind-PathTerm ByParts ByPartsR
      (λ x y is. subst (λ z. ByParts (roll-PathTerm z)) is (by_roll (plain y) (by_layer y)))
      (λ x y is. subst (λ z. ByPartsR (roll-RelTerm z)) is (by_roll_r (plain_r y) (by_layer_r y)))

  pub by_parts_r : (r : RelTerm) → ComplementsR r ↔ SomePart D (complemented_parts_r r)
  by_parts_r =
      ind-RelTerm ByParts ByPartsR
      (λ x y is. subst (λ z. ByParts (roll-PathTerm z)) is (by_roll (plain y) (by_layer y)))
      (λ x y is. subst (λ z. ByPartsR (roll-RelTerm z)) is (by_roll_r (plain_r y) (by_layer_r y)))
