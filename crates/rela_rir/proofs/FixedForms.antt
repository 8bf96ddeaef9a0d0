-- Which parts of a layer name neither path set, as equations.
use Rattle.std.proofs.Common.{◌≡◌, ◌↔◌, refl, sym, subst}
use Rattle.rela_rir.specs.Fixed.{IsFixed, IsFixedR, LayerIsFixed, LayerIsFixedR}
use Rattle.rela_rir.specs.declared.term.PathTerm.{PathTerm}
use Rattle.rela_rir.specs.declared.term.RelTerm.{RelTerm}
use Rattle.rela_rir.specs.declared.term.PathTerm.TheOpen as F
use Rattle.rela_rir.specs.declared.term.PathTerm.TheViews.{roll-PathTerm, roll-RelTerm}
use Rattle.rela_rir.specs.declared.term.PathTerm.TheFolds.{map-PathTerm, map-RelTerm, rec-roll-PathTerm, rec-roll-RelTerm}

natural : (X Y : Type 0) (v : X → PathTerm) (v' : Y → RelTerm) (k : PathTerm → Type 0) (k' : RelTerm → Type 0) (x : F.PathTerm-F X Y) →
    LayerIsFixed (λ p. k (v p)) (λ p. k' (v' p)) x ≡ LayerIsFixed k k' (map-PathTerm X Y PathTerm RelTerm v v' x)
natural X Y v v' k k' F.None = refl
natural X Y v v' k k' F.Empty = refl
natural X Y v v' k k' (F.Class n) = refl
natural X Y v v' k k' (F.One s) = refl
natural X Y v v' k k' (F.PathTerm::Union a b) = refl
natural X Y v v' k k' (F.PathTerm::Concat a b) = refl
natural X Y v v' k k' (F.PathTerm::Star a) = refl
natural X Y v v' k k' (F.Meet a b) = refl
natural X Y v v' k k' (F.Complement a) = refl
natural X Y v v' k k' F.Pre = refl
natural X Y v v' k k' F.Post = refl
natural X Y v v' k k' (F.Image a r) = refl

natural_r : (X Y : Type 0) (v : X → PathTerm) (v' : Y → RelTerm) (k : PathTerm → Type 0) (k' : RelTerm → Type 0) (x : F.RelTerm-F X Y) →
    LayerIsFixedR (λ p. k (v p)) (λ p. k' (v' p)) x ≡ LayerIsFixedR k k' (map-RelTerm X Y PathTerm RelTerm v v' x)
natural_r X Y v v' k k' (F.Identity a) = refl
natural_r X Y v v' k k' (F.Product a b) = refl
natural_r X Y v v' k k' (F.RelTerm::Union r t) = refl
natural_r X Y v v' k k' (F.RelTerm::Concat r t) = refl
natural_r X Y v v' k k' (F.RelTerm::Star r) = refl
natural_r X Y v v' k k' (F.Compose r t) = refl

pub fixed_roll : (x : F.PathTerm-F PathTerm RelTerm) → IsFixed (roll-PathTerm x) ≡ LayerIsFixed IsFixed IsFixedR x
fixed_roll x = rec-roll-PathTerm (Type 0) (Type 0) (λ X Y _ _ part part_r layer. LayerIsFixed part part_r layer) (λ X Y _ _ part part_r layer. LayerIsFixedR part part_r layer) natural x

pub fixed_roll_r : (x : F.RelTerm-F PathTerm RelTerm) → IsFixedR (roll-RelTerm x) ≡ LayerIsFixedR IsFixed IsFixedR x
fixed_roll_r x = rec-roll-RelTerm (Type 0) (Type 0) (λ X Y _ _ part part_r layer. LayerIsFixed part part_r layer) (λ X Y _ _ part part_r layer. LayerIsFixedR part part_r layer) natural_r x

-- by what its layer says
pub as_layer : (z : F.PathTerm-F PathTerm RelTerm) (t : PathTerm) → roll-PathTerm z ≡ t → IsFixed t ↔ LayerIsFixed IsFixed IsFixedR z
as_layer z t rolls =
    subst (λ (s : PathTerm). IsFixed s ↔ LayerIsFixed IsFixed IsFixedR z) rolls
    (subst (λ (T : Type 0). T ↔ LayerIsFixed IsFixed IsFixedR z) (sym (fixed_roll z)) (λ h. h, λ h. h))

pub as_layer_r : (z : F.RelTerm-F PathTerm RelTerm) (t : RelTerm) → roll-RelTerm z ≡ t → IsFixedR t ↔ LayerIsFixedR IsFixed IsFixedR z
as_layer_r z t rolls =
    subst (λ (s : RelTerm). IsFixedR s ↔ LayerIsFixedR IsFixed IsFixedR z) rolls
    (subst (λ (T : Type 0). T ↔ LayerIsFixedR IsFixed IsFixedR z) (sym (fixed_roll_r z)) (λ h. h, λ h. h))
