-- What is inside a term by its parts: counted terms with many places, and the parts of complements.
use Rattle.std.proofs.Common.{◌≡◌, ℕ, ◌⊎◌, inl, inr, refl, sym, ap, subst}
use Rattle.rela_rir.specs.Complements.{parts_of_layer, parts_of_layer_r, Parts, complemented_parts, complemented_parts_r, layer_parts, layer_parts_r}
use Rattle.rela_rir.specs.Limit.{LayerSome, LayerSomeR, LayerHas, LayerHasR, Reached, ReachedR, LayerIsCounted, LayerIsCountedR, ReachedInside, ReachedInsideR}
use Rattle.rela_rir.specs.Places.{Scene}
use Rattle.rela_rir.specs.declared.term.PathTerm.{PathTerm}
use Rattle.rela_rir.specs.declared.term.RelTerm.{RelTerm}
use Rattle.rela_rir.specs.declared.term.PathTerm.TheOpen as F
use Rattle.rela_rir.specs.declared.term.PathTerm.TheViews.{roll-PathTerm, roll-RelTerm, out-PathTerm, out-RelTerm, out-roll-PathTerm, out-roll-RelTerm}
use Rattle.rela_rir.specs.declared.term.PathTerm.TheFolds.{map-PathTerm, map-RelTerm, rec-roll-PathTerm, rec-roll-RelTerm}

some_natural : (P : PathTerm → Type 0) (X Y : Type 0) (v : X → PathTerm) (v' : Y → RelTerm) (k : PathTerm → Type 0) (k' : RelTerm → Type 0) (x : F.PathTerm-F X Y) →
    LayerHas v v' (λ p. k (v p)) (λ p. k' (v' p)) P x ≡ LayerHas (λ y. y) (λ y. y) k k' P (map-PathTerm X Y PathTerm RelTerm v v' x)
some_natural P X Y v v' k k' F.None = refl
some_natural P X Y v v' k k' F.Empty = refl
some_natural P X Y v v' k k' (F.Class n) = refl
some_natural P X Y v v' k k' (F.One s) = refl
some_natural P X Y v v' k k' (F.PathTerm::Union a b) = refl
some_natural P X Y v v' k k' (F.PathTerm::Concat a b) = refl
some_natural P X Y v v' k k' (F.PathTerm::Star a) = refl
some_natural P X Y v v' k k' (F.Meet a b) = refl
some_natural P X Y v v' k k' (F.Complement a) = refl
some_natural P X Y v v' k k' F.Pre = refl
some_natural P X Y v v' k k' F.Post = refl
some_natural P X Y v v' k k' (F.Image a r) = refl

some_natural_r : (R : RelTerm → Type 0) (X Y : Type 0) (v : X → PathTerm) (v' : Y → RelTerm) (k : PathTerm → Type 0) (k' : RelTerm → Type 0) (x : F.RelTerm-F X Y) →
    LayerHasR v v' (λ p. k (v p)) (λ p. k' (v' p)) R x ≡ LayerHasR (λ y. y) (λ y. y) k k' R (map-RelTerm X Y PathTerm RelTerm v v' x)
some_natural_r R X Y v v' k k' (F.Identity a) = refl
some_natural_r R X Y v v' k k' (F.Product a b) = refl
some_natural_r R X Y v v' k k' (F.RelTerm::Union r t) = refl
some_natural_r R X Y v v' k k' (F.RelTerm::Concat r t) = refl
some_natural_r R X Y v v' k k' (F.RelTerm::Star r) = refl
some_natural_r R X Y v v' k k' (F.Compose r t) = refl

module _ (m : Scene) (k : ℕ) where
  abbrev Counted : PathTerm → Type 0
  Counted t = LayerIsCounted (out-PathTerm t) × Reached m t k

  abbrev CountedR : RelTerm → Type 0
  CountedR r = LayerIsCountedR (out-RelTerm r) × ReachedR m r k

  -- a term that is written with its parts as they are
  abbrev kept : F.PathTerm-F PathTerm RelTerm → F.PathTerm-F PathTerm RelTerm
  kept z = map-PathTerm PathTerm RelTerm PathTerm RelTerm (λ x. x) (λ r. r) z

  abbrev kept_r : F.RelTerm-F PathTerm RelTerm → F.RelTerm-F PathTerm RelTerm
  kept_r z = map-RelTerm PathTerm RelTerm PathTerm RelTerm (λ x. x) (λ r. r) z

  inside_roll : (z : F.PathTerm-F PathTerm RelTerm) → ReachedInside m k (roll-PathTerm z) ≡ (Counted (roll-PathTerm (kept z)) ⊎ LayerSome (ReachedInside m k) (ReachedInsideR m k) z)
  inside_roll z =
      rec-roll-PathTerm (Type 0) (Type 0) (λ X Y term relation part part_r layer. LayerHas term relation part part_r Counted layer)
      (λ X Y term relation part part_r layer. LayerHasR term relation part part_r CountedR layer) (some_natural Counted) z

  inside_roll_r : (z : F.RelTerm-F PathTerm RelTerm) → ReachedInsideR m k (roll-RelTerm z) ≡ (CountedR (roll-RelTerm (kept_r z)) ⊎ LayerSomeR (ReachedInside m k) (ReachedInsideR m k) z)
  inside_roll_r z =
      rec-roll-RelTerm (Type 0) (Type 0) (λ X Y term relation part part_r layer. LayerHas term relation part part_r Counted layer)
      (λ X Y term relation part part_r layer. LayerHasR term relation part part_r CountedR layer) (some_natural_r CountedR) z

  -- one is in the term where one is in a part
  pub by_parts : (z : F.PathTerm-F PathTerm RelTerm) (t : PathTerm) → roll-PathTerm z ≡ t → LayerSome (ReachedInside m k) (ReachedInsideR m k) z → ReachedInside m k t
  by_parts z t rolls some = subst (ReachedInside m k) rolls (subst (λ (T : Type 0). T) (sym (inside_roll z)) (inr some))

  pub by_parts_r : (z : F.RelTerm-F PathTerm RelTerm) (r : RelTerm) → roll-RelTerm z ≡ r → LayerSomeR (ReachedInside m k) (ReachedInsideR m k) z → ReachedInsideR m k r
  by_parts_r z r rolls some = subst (ReachedInsideR m k) rolls (subst (λ (T : Type 0). T) (sym (inside_roll_r z)) (inr some))

  -- and where the term is one itself
  pub itself : (z : F.PathTerm-F PathTerm RelTerm) (t : PathTerm) → roll-PathTerm z ≡ t → kept z ≡ z → LayerIsCounted z → Reached m t k → ReachedInside m k t
  itself z t rolls same counts reached =
      let one : Counted (roll-PathTerm z) = (subst LayerIsCounted (sym (out-roll-PathTerm z)) counts, subst (λ (s : PathTerm). Reached m s k) (sym rolls) reached) in
      subst (ReachedInside m k) rolls (subst (λ (T : Type 0). T) (sym (inside_roll z)) (inl (subst (λ (y : F.PathTerm-F PathTerm RelTerm). Counted (roll-PathTerm y)) (sym same) one)))

  pub itself_r : (z : F.RelTerm-F PathTerm RelTerm) (r : RelTerm) → roll-RelTerm z ≡ r → kept_r z ≡ z → LayerIsCountedR z → ReachedR m r k → ReachedInsideR m k r
  itself_r z r rolls same counts reached =
      let one : CountedR (roll-RelTerm z) = (subst LayerIsCountedR (sym (out-roll-RelTerm z)) counts, subst (λ (s : RelTerm). ReachedR m s k) (sym rolls) reached) in
      subst (ReachedInsideR m k) rolls (subst (λ (T : Type 0). T) (sym (inside_roll_r z)) (inl (subst (λ (y : F.RelTerm-F PathTerm RelTerm). CountedR (roll-RelTerm y)) (sym same) one)))

parts_natural : (X Y : Type 0) (v : X → PathTerm) (v' : Y → RelTerm) (k : PathTerm → Parts) (k' : RelTerm → Parts) (x : F.PathTerm-F X Y) →
    parts_of_layer X Y v (λ p. k (v p)) (λ p. k' (v' p)) x ≡ parts_of_layer PathTerm RelTerm (λ y. y) k k' (map-PathTerm X Y PathTerm RelTerm v v' x)
parts_natural X Y v v' k k' F.None = refl
parts_natural X Y v v' k k' F.Empty = refl
parts_natural X Y v v' k k' (F.Class n) = refl
parts_natural X Y v v' k k' (F.One s) = refl
parts_natural X Y v v' k k' (F.PathTerm::Union a b) = refl
parts_natural X Y v v' k k' (F.PathTerm::Concat a b) = refl
parts_natural X Y v v' k k' (F.PathTerm::Star a) = refl
parts_natural X Y v v' k k' (F.Meet a b) = refl
parts_natural X Y v v' k k' (F.Complement a) = refl
parts_natural X Y v v' k k' F.Pre = refl
parts_natural X Y v v' k k' F.Post = refl
parts_natural X Y v v' k k' (F.Image a r) = refl

parts_natural_r : (X Y : Type 0) (v : X → PathTerm) (v' : Y → RelTerm) (k : PathTerm → Parts) (k' : RelTerm → Parts) (x : F.RelTerm-F X Y) →
    parts_of_layer_r X Y v (λ p. k (v p)) (λ p. k' (v' p)) x ≡ parts_of_layer_r PathTerm RelTerm (λ y. y) k k' (map-RelTerm X Y PathTerm RelTerm v v' x)
parts_natural_r X Y v v' k k' (F.Identity a) = refl
parts_natural_r X Y v v' k k' (F.Product a b) = refl
parts_natural_r X Y v v' k k' (F.RelTerm::Union r s) = refl
parts_natural_r X Y v v' k k' (F.RelTerm::Concat r s) = refl
parts_natural_r X Y v v' k k' (F.RelTerm::Star r) = refl
parts_natural_r X Y v v' k k' (F.Compose r s) = refl

pub parts_roll : (z : F.PathTerm-F PathTerm RelTerm) → complemented_parts (roll-PathTerm z) ≡ layer_parts (λ y. y) complemented_parts complemented_parts_r z
parts_roll z =
    ap (λ (c : Parts). c.parts)
    (rec-roll-PathTerm Parts Parts (λ X Y term _ inside inside_r z. parts_of_layer X Y term inside inside_r z) (λ X Y term _ inside inside_r z. parts_of_layer_r X Y term inside inside_r z) parts_natural z)

pub parts_roll_r : (z : F.RelTerm-F PathTerm RelTerm) → complemented_parts_r (roll-RelTerm z) ≡ layer_parts_r (λ y. y) complemented_parts complemented_parts_r z
parts_roll_r z =
    ap (λ (c : Parts). c.parts)
    (rec-roll-RelTerm Parts Parts (λ X Y term _ inside inside_r z. parts_of_layer X Y term inside inside_r z) (λ X Y term _ inside inside_r z. parts_of_layer_r X Y term inside inside_r z) parts_natural_r z)
