-- What some subterm has, by the form of the term; and what some subterm has it has still where it is weakened,
-- by induction on terms.
use Rattle.std.proofs.Common.{◌≡◌, ◌∙◌, ◌⊎◌, inl, inr, subst, sym, ap, refl}
use Rattle.rela_rir.specs.Fixed.{IsFixed, IsFixedR, LayerIsFixed, LayerIsFixedR}
use Rattle.rela_rir.specs.Limit.{SomeSubterm, SomeSubtermR, LayerSome, LayerSomeR, LayerHas, LayerHasR}
use Rattle.rela_rir.proofs.FixedForms.{fixed_roll, fixed_roll_r}
use Rattle.rela_rir.specs.declared.term.PathTerm.{PathTerm}
use Rattle.rela_rir.specs.declared.term.RelTerm.{RelTerm}
use Rattle.rela_rir.specs.declared.term.PathTerm.TheOpen as F
use Rattle.rela_rir.specs.declared.term.PathTerm.TheViews.{roll-PathTerm, roll-RelTerm}
use Rattle.rela_rir.specs.declared.term.PathTerm.TheFolds.{map-PathTerm, map-RelTerm, ind-PathTerm, ind-RelTerm, rec-roll-PathTerm, rec-roll-RelTerm}

natural : (P : PathTerm → Type 0) (X Y : Type 0) (v : X → PathTerm) (v' : Y → RelTerm) (k : PathTerm → Type 0) (k' : RelTerm → Type 0) (x : F.PathTerm-F X Y) →
    LayerHas v v' (λ p. k (v p)) (λ p. k' (v' p)) P x ≡ LayerHas (λ y. y) (λ y. y) k k' P (map-PathTerm X Y PathTerm RelTerm v v' x)
natural P X Y v v' k k' F.None = refl
natural P X Y v v' k k' F.Empty = refl
natural P X Y v v' k k' (F.Class n) = refl
natural P X Y v v' k k' (F.One s) = refl
natural P X Y v v' k k' (F.PathTerm::Union a b) = refl
natural P X Y v v' k k' (F.PathTerm::Concat a b) = refl
natural P X Y v v' k k' (F.PathTerm::Star a) = refl
natural P X Y v v' k k' (F.Meet a b) = refl
natural P X Y v v' k k' (F.Complement a) = refl
natural P X Y v v' k k' F.Pre = refl
natural P X Y v v' k k' F.Post = refl
natural P X Y v v' k k' (F.Image a r) = refl

natural_r : (R : RelTerm → Type 0) (X Y : Type 0) (v : X → PathTerm) (v' : Y → RelTerm) (k : PathTerm → Type 0) (k' : RelTerm → Type 0) (x : F.RelTerm-F X Y) →
    LayerHasR v v' (λ p. k (v p)) (λ p. k' (v' p)) R x ≡ LayerHasR (λ y. y) (λ y. y) k k' R (map-RelTerm X Y PathTerm RelTerm v v' x)
natural_r R X Y v v' k k' (F.Identity a) = refl
natural_r R X Y v v' k k' (F.Product a b) = refl
natural_r R X Y v v' k k' (F.RelTerm::Union r t) = refl
natural_r R X Y v v' k k' (F.RelTerm::Concat r t) = refl
natural_r R X Y v v' k k' (F.RelTerm::Star r) = refl
natural_r R X Y v v' k k' (F.Compose r t) = refl

-- a layer whose parts are what they are
same_layer : (z : F.PathTerm-F PathTerm RelTerm) → map-PathTerm PathTerm RelTerm PathTerm RelTerm (λ x. x) (λ r. r) z ≡ z
same_layer F.None = refl
same_layer F.Empty = refl
same_layer (F.Class n) = refl
same_layer (F.One s) = refl
same_layer (F.PathTerm::Union a b) = refl
same_layer (F.PathTerm::Concat a b) = refl
same_layer (F.PathTerm::Star a) = refl
same_layer (F.Meet a b) = refl
same_layer (F.Complement a) = refl
same_layer F.Pre = refl
same_layer F.Post = refl
same_layer (F.Image a r) = refl

same_layer_r : (z : F.RelTerm-F PathTerm RelTerm) → map-RelTerm PathTerm RelTerm PathTerm RelTerm (λ x. x) (λ r. r) z ≡ z
same_layer_r (F.Identity a) = refl
same_layer_r (F.Product a b) = refl
same_layer_r (F.RelTerm::Union r t) = refl
same_layer_r (F.RelTerm::Concat r t) = refl
same_layer_r (F.RelTerm::Star r) = refl
same_layer_r (F.Compose r t) = refl

pub some_roll : (P : PathTerm → Type 0) (R : RelTerm → Type 0) (z : F.PathTerm-F PathTerm RelTerm) →
    SomeSubterm P R (roll-PathTerm z) ≡ (P (roll-PathTerm z) ⊎ LayerSome (SomeSubterm P R) (SomeSubtermR P R) z)
some_roll P R z =
    rec-roll-PathTerm (Type 0) (Type 0) (λ X Y term relation part part_r layer. LayerHas term relation part part_r P layer) (λ X Y term relation part part_r layer. LayerHasR term relation part part_r R layer) (natural P) z
    ∙ ap (λ y. P (roll-PathTerm y) ⊎ LayerSome (SomeSubterm P R) (SomeSubtermR P R) z) (same_layer z)

pub some_roll_r : (P : PathTerm → Type 0) (R : RelTerm → Type 0) (z : F.RelTerm-F PathTerm RelTerm) →
    SomeSubtermR P R (roll-RelTerm z) ≡ (R (roll-RelTerm z) ⊎ LayerSomeR (SomeSubterm P R) (SomeSubtermR P R) z)
some_roll_r P R z =
    rec-roll-RelTerm (Type 0) (Type 0) (λ X Y term relation part part_r layer. LayerHas term relation part part_r P layer) (λ X Y term relation part part_r layer. LayerHasR term relation part part_r R layer) (natural_r R) z
    ∙ ap (λ y. R (roll-RelTerm y) ⊎ LayerSomeR (SomeSubterm P R) (SomeSubtermR P R) z) (same_layer_r z)

either : {A B C D : Type 0} → (A → C) → (B → D) → A ⊎ B → C ⊎ D
either f g (inl a) = inl (f a)
either f g (inr b) = inr (g b)

through : (A B C D : Type 0) → A ≡ B → C ≡ D → (B → D) → A → C
through A B C D from to f a = subst (λ (T : Type 0). T) (sym to) (f (subst (λ (T : Type 0). T) from a))

first : {A B C : Type 0} → (A × B) ⊎ C → A ⊎ C
first (inl both) = inl both.0
first (inr c) = inr c

second : {A B C : Type 0} → (A × B) ⊎ C → B ⊎ C
second (inl both) = inl both.1
second (inr c) = inr c

opened : {A B C : Type 0} → A ≡ B → A ⊎ C → B ⊎ C
opened {A} {B} {C} same has = subst (λ (T : Type 0). T ⊎ C) same has

-- P becomes Q, and R becomes S, at the terms that name neither path set, and where C holds at all terms
module _ (C : Type 0) (P Q : PathTerm → Type 0) (R S : RelTerm → Type 0) (f : (x : PathTerm) → IsFixed x ⊎ C → P x → Q x) (g : (r : RelTerm) → IsFixedR r ⊎ C → R r → S r) where
  abbrev Weakens : PathTerm → Type 0
  Weakens x = IsFixed x ⊎ C → SomeSubterm P R x → SomeSubterm Q S x

  abbrev WeakensR : RelTerm → Type 0
  WeakensR r = IsFixedR r ⊎ C → SomeSubtermR P R r → SomeSubtermR Q S r

  abbrev Path : Type 0
  Path = (x : PathTerm) × Weakens x

  abbrev Related : Type 0
  Related = (r : RelTerm) × WeakensR r

  abbrev plain : F.PathTerm-F Path Related → F.PathTerm-F PathTerm RelTerm
  plain y = map-PathTerm Path Related PathTerm RelTerm (λ e. e.0) (λ e. e.0) y

  abbrev plain_r : F.RelTerm-F Path Related → F.RelTerm-F PathTerm RelTerm
  plain_r y = map-RelTerm Path Related PathTerm RelTerm (λ e. e.0) (λ e. e.0) y

  parts : (y : F.PathTerm-F Path Related) → LayerIsFixed IsFixed IsFixedR (plain y) ⊎ C →
      LayerSome (SomeSubterm P R) (SomeSubtermR P R) (plain y) → LayerSome (SomeSubterm Q S) (SomeSubtermR Q S) (plain y)
  parts F.None named never = never
  parts F.Empty named never = never
  parts (F.Class n) named never = never
  parts (F.One s) named never = never
  parts (F.PathTerm::Union a b) named some = either (a.1 (first named)) (b.1 (second named)) some
  parts (F.PathTerm::Concat a b) named some = either (a.1 (first named)) (b.1 (second named)) some
  parts (F.PathTerm::Star a) named some = a.1 named some
  parts (F.Meet a b) named some = either (a.1 (first named)) (b.1 (second named)) some
  parts (F.Complement a) named some = a.1 named some
  parts F.Pre named never = never
  parts F.Post named never = never
  parts (F.Image a r) named some = either (a.1 (first named)) (r.1 (second named)) some

  parts_r : (y : F.RelTerm-F Path Related) → LayerIsFixedR IsFixed IsFixedR (plain_r y) ⊎ C →
      LayerSomeR (SomeSubterm P R) (SomeSubtermR P R) (plain_r y) → LayerSomeR (SomeSubterm Q S) (SomeSubtermR Q S) (plain_r y)
  parts_r (F.Identity a) named some = a.1 named some
  parts_r (F.Product a b) named some = either (a.1 (first named)) (b.1 (second named)) some
  parts_r (F.RelTerm::Union r t) named some = either (r.1 (first named)) (t.1 (second named)) some
  parts_r (F.RelTerm::Concat r t) named some = either (r.1 (first named)) (t.1 (second named)) some
  parts_r (F.RelTerm::Star r) named some = r.1 named some
  parts_r (F.Compose r t) named some = either (r.1 (first named)) (t.1 (second named)) some

  layer : (y : F.PathTerm-F Path Related) → Weakens (roll-PathTerm (plain y))
  layer y named = through _ _ _ _ (some_roll P R (plain y)) (some_roll Q S (plain y)) (either (f (roll-PathTerm (plain y)) named) (parts y (opened (fixed_roll (plain y)) named)))

  layer_r : (y : F.RelTerm-F Path Related) → WeakensR (roll-RelTerm (plain_r y))
  layer_r y named = through _ _ _ _ (some_roll_r P R (plain_r y)) (some_roll_r Q S (plain_r y)) (either (g (roll-RelTerm (plain_r y)) named) (parts_r y (opened (fixed_roll_r (plain_r y)) named)))

  pub weaken : (x : PathTerm) → IsFixed x ⊎ C → SomeSubterm P R x → SomeSubterm Q S x
  weaken =
      ind-PathTerm Weakens WeakensR
      (λ x y is. subst (λ z. Weakens (roll-PathTerm z)) is (layer y))
      (λ x y is. subst (λ z. WeakensR (roll-RelTerm z)) is (layer_r y))

  pub weaken_r : (r : RelTerm) → IsFixedR r ⊎ C → SomeSubtermR P R r → SomeSubtermR Q S r
  weaken_r =
      ind-RelTerm Weakens WeakensR
      (λ x y is. subst (λ z. Weakens (roll-PathTerm z)) is (layer y))
      (λ x y is. subst (λ z. WeakensR (roll-RelTerm z)) is (layer_r y))
