-- The places of each form of term and what tells them apart, as equations.
use Rattle.std.proofs.Common.{◌≡◌, ◌∙◌, ℕ, List, sym, ap, refl, subst}
use Rattle.std.specs.Prelude.{◌↔◌}
use Rattle.rela_rir.specs.Meaning.{In, InR, IsInClass}
use Rattle.rela_rir.specs.Places.{Place, Scene, Places, PairPlaces, Tells, At, AtR, Apart, ApartR, LayerAt, LayerAtR, LayerApart, LayerApartR, EmptyPlaces, LetterPlaces, UnionPlaces, ConcatPlaces, StarPlaces, MeetPlaces, ComplementPlaces, PathSetPlaces, ImagePlaces, IdentityPlaces, ProductPlaces, PairUnionPlaces, PairConcatPlaces, PairStarPlaces, ComposePlaces, PartsApart, SeenApart, NoParts}
use Rattle.rela_rir.specs.declared.term.PathTerm.{PathTerm}
use Rattle.rela_rir.specs.declared.term.RelTerm.{RelTerm}
use Rattle.rela_rir.specs.declared.term.PathTerm.TheOpen as F
use Rattle.rela_rir.specs.declared.term.PathTerm.TheVariants as P
use Rattle.rela_rir.specs.declared.term.RelTerm.TheVariants as R
use Rattle.rela_rir.specs.declared.term.PathTerm.TheViews.{roll-PathTerm, roll-RelTerm}
use Rattle.rela_rir.specs.declared.term.PathTerm.TheFolds.{map-PathTerm, map-RelTerm, rec-roll-PathTerm, rec-roll-RelTerm}

at_natural : (m : Scene) (X Y : Type 0) (v : X → PathTerm) (v' : Y → RelTerm) (k : PathTerm → Places) (k' : RelTerm → PairPlaces) (x : F.PathTerm-F X Y) → LayerAt m v v' (λ p. k (v p)) (λ p. k' (v' p)) x ≡ LayerAt m (λ p. p) (λ p. p) k k' (map-PathTerm X Y PathTerm RelTerm v v' x)
at_natural m X Y v v' k k' F.None = refl
at_natural m X Y v v' k k' F.Empty = refl
at_natural m X Y v v' k k' (F.Class n) = refl
at_natural m X Y v v' k k' (F.One s) = refl
at_natural m X Y v v' k k' (F.PathTerm::Union a b) = refl
at_natural m X Y v v' k k' (F.PathTerm::Concat a b) = refl
at_natural m X Y v v' k k' (F.PathTerm::Star a) = refl
at_natural m X Y v v' k k' (F.Meet a b) = refl
at_natural m X Y v v' k k' (F.Complement a) = refl
at_natural m X Y v v' k k' F.Pre = refl
at_natural m X Y v v' k k' F.Post = refl
at_natural m X Y v v' k k' (F.Image a r) = refl

at_natural_r : (m : Scene) (X Y : Type 0) (v : X → PathTerm) (v' : Y → RelTerm) (k : PathTerm → Places) (k' : RelTerm → PairPlaces) (x : F.RelTerm-F X Y) → LayerAtR m v v' (λ p. k (v p)) (λ p. k' (v' p)) x ≡ LayerAtR m (λ p. p) (λ p. p) k k' (map-RelTerm X Y PathTerm RelTerm v v' x)
at_natural_r m X Y v v' k k' (F.Identity a) = refl
at_natural_r m X Y v v' k k' (F.Product a b) = refl
at_natural_r m X Y v v' k k' (F.RelTerm::Union r s) = refl
at_natural_r m X Y v v' k k' (F.RelTerm::Concat r s) = refl
at_natural_r m X Y v v' k k' (F.RelTerm::Star r) = refl
at_natural_r m X Y v v' k k' (F.Compose r s) = refl

apart_natural : (m : Scene) (X Y : Type 0) (v : X → PathTerm) (v' : Y → RelTerm) (k : PathTerm → Tells) (k' : RelTerm → Tells) (x : F.PathTerm-F X Y) → LayerApart m v (λ p. k (v p)) (λ p. k' (v' p)) x ≡ LayerApart m (λ p. p) k k' (map-PathTerm X Y PathTerm RelTerm v v' x)
apart_natural m X Y v v' k k' F.None = refl
apart_natural m X Y v v' k k' F.Empty = refl
apart_natural m X Y v v' k k' (F.Class n) = refl
apart_natural m X Y v v' k k' (F.One s) = refl
apart_natural m X Y v v' k k' (F.PathTerm::Union a b) = refl
apart_natural m X Y v v' k k' (F.PathTerm::Concat a b) = refl
apart_natural m X Y v v' k k' (F.PathTerm::Star a) = refl
apart_natural m X Y v v' k k' (F.Meet a b) = refl
apart_natural m X Y v v' k k' (F.Complement a) = refl
apart_natural m X Y v v' k k' F.Pre = refl
apart_natural m X Y v v' k k' F.Post = refl
apart_natural m X Y v v' k k' (F.Image a r) = refl

apart_natural_r : (m : Scene) (X Y : Type 0) (v : X → PathTerm) (v' : Y → RelTerm) (k : PathTerm → Tells) (k' : RelTerm → Tells) (x : F.RelTerm-F X Y) → LayerApartR m v (λ p. k (v p)) (λ p. k' (v' p)) x ≡ LayerApartR m (λ p. p) k k' (map-RelTerm X Y PathTerm RelTerm v v' x)
apart_natural_r m X Y v v' k k' (F.Identity a) = refl
apart_natural_r m X Y v v' k k' (F.Product a b) = refl
apart_natural_r m X Y v v' k k' (F.RelTerm::Union r s) = refl
apart_natural_r m X Y v v' k k' (F.RelTerm::Concat r s) = refl
apart_natural_r m X Y v v' k k' (F.RelTerm::Star r) = refl
apart_natural_r m X Y v v' k k' (F.Compose r s) = refl

pub at_roll : (m : Scene) (x : F.PathTerm-F PathTerm RelTerm) → At m (roll-PathTerm x) ≡ LayerAt m (λ p. p) (λ p. p) (At m) (AtR m) x
at_roll m x = rec-roll-PathTerm Places PairPlaces (λ X Y term relation at pairs layer. LayerAt m term relation at pairs layer) (λ X Y term relation at pairs layer. LayerAtR m term relation at pairs layer) (at_natural m) x

pub at_roll_r : (m : Scene) (x : F.RelTerm-F PathTerm RelTerm) → AtR m (roll-RelTerm x) ≡ LayerAtR m (λ p. p) (λ p. p) (At m) (AtR m) x
at_roll_r m x = rec-roll-RelTerm Places PairPlaces (λ X Y term relation at pairs layer. LayerAt m term relation at pairs layer) (λ X Y term relation at pairs layer. LayerAtR m term relation at pairs layer) (at_natural_r m) x

pub apart_roll : (m : Scene) (x : F.PathTerm-F PathTerm RelTerm) → Apart m (roll-PathTerm x) ≡ LayerApart m (λ p. p) (Apart m) (ApartR m) x
apart_roll m x = rec-roll-PathTerm Tells Tells (λ X Y term _ apart apart_r layer. LayerApart m term apart apart_r layer) (λ X Y term _ apart apart_r layer. LayerApartR m term apart apart_r layer) (apart_natural m) x

pub apart_roll_r : (m : Scene) (x : F.RelTerm-F PathTerm RelTerm) → ApartR m (roll-RelTerm x) ≡ LayerApartR m (λ p. p) (Apart m) (ApartR m) x
apart_roll_r m x = rec-roll-RelTerm Tells Tells (λ X Y term _ apart apart_r layer. LayerApart m term apart apart_r layer) (λ X Y term _ apart apart_r layer. LayerApartR m term apart apart_r layer) (apart_natural_r m) x

pub at_none : (m : Scene) → At m P.None ≡ EmptyPlaces
at_none m = ap (At m) (sym P.rolls-None) ∙ at_roll m F.None

pub at_empty : (m : Scene) → At m P.Empty ≡ EmptyPlaces
at_empty m = ap (At m) (sym P.rolls-Empty) ∙ at_roll m F.Empty

pub at_class : (m : Scene) (k : ℕ) → At m (P.Class k) ≡ LetterPlaces (IsInClass m.setting k)
at_class m k = ap (At m) (sym (P.rolls-Class k)) ∙ at_roll m (F.Class k)

pub at_one : (m : Scene) (s : ℕ) → At m (P.One s) ≡ LetterPlaces (λ t. t ≡ s)
at_one m s = ap (At m) (sym (P.rolls-One s)) ∙ at_roll m (F.One s)

pub at_union : (m : Scene) (x y : PathTerm) → At m (P.Union x y) ≡ UnionPlaces (At m x) (At m y)
at_union m x y = ap (At m) (sym (P.rolls-Union x y)) ∙ at_roll m (F.PathTerm::Union x y)

pub at_concat : (m : Scene) (x y : PathTerm) → At m (P.Concat x y) ≡ ConcatPlaces (In m.setting x) (At m x) (At m y)
at_concat m x y = ap (At m) (sym (P.rolls-Concat x y)) ∙ at_roll m (F.PathTerm::Concat x y)

pub at_star : (m : Scene) (x : PathTerm) → At m (P.Star x) ≡ StarPlaces (In m.setting x) (At m x)
at_star m x = ap (At m) (sym (P.rolls-Star x)) ∙ at_roll m (F.PathTerm::Star x)

pub at_meet : (m : Scene) (x y : PathTerm) → At m (P.Meet x y) ≡ MeetPlaces (At m x) (At m y)
at_meet m x y = ap (At m) (sym (P.rolls-Meet x y)) ∙ at_roll m (F.Meet x y)

pub at_complement : (m : Scene) (x : PathTerm) → At m (P.Complement x) ≡ ComplementPlaces m.setting.path_symbols (At m x)
at_complement m x = ap (At m) (sym (P.rolls-Complement x)) ∙ at_roll m (F.Complement x)

pub at_pre : (m : Scene) → At m P.Pre ≡ PathSetPlaces m.pre
at_pre m = ap (At m) (sym P.rolls-Pre) ∙ at_roll m F.Pre

pub at_post : (m : Scene) → At m P.Post ≡ PathSetPlaces m.post
at_post m = ap (At m) (sym P.rolls-Post) ∙ at_roll m F.Post

pub at_image : (m : Scene) (x : PathTerm) (r : RelTerm) → At m (P.Image x r) ≡ ImagePlaces (At m x) (AtR m r)
at_image m x r = ap (At m) (sym (P.rolls-Image x r)) ∙ at_roll m (F.Image x r)

pub at_identity_r : (m : Scene) (x : PathTerm) → AtR m (R.Identity x) ≡ IdentityPlaces (At m x)
at_identity_r m x = ap (AtR m) (sym (R.rolls-Identity x)) ∙ at_roll_r m (F.Identity x)

pub at_product_r : (m : Scene) (x y : PathTerm) → AtR m (R.Product x y) ≡ ProductPlaces (In m.setting x) (At m x) (At m y)
at_product_r m x y = ap (AtR m) (sym (R.rolls-Product x y)) ∙ at_roll_r m (F.Product x y)

pub at_union_r : (m : Scene) (r s : RelTerm) → AtR m (R.Union r s) ≡ PairUnionPlaces (AtR m r) (AtR m s)
at_union_r m r s = ap (AtR m) (sym (R.rolls-Union r s)) ∙ at_roll_r m (F.RelTerm::Union r s)

pub at_concat_r : (m : Scene) (r s : RelTerm) → AtR m (R.Concat r s) ≡ PairConcatPlaces (InR m.setting r) (AtR m r) (AtR m s)
at_concat_r m r s = ap (AtR m) (sym (R.rolls-Concat r s)) ∙ at_roll_r m (F.RelTerm::Concat r s)

pub at_star_r : (m : Scene) (r : RelTerm) → AtR m (R.Star r) ≡ PairStarPlaces (InR m.setting r) (AtR m r)
at_star_r m r = ap (AtR m) (sym (R.rolls-Star r)) ∙ at_roll_r m (F.RelTerm::Star r)

pub at_compose_r : (m : Scene) (r s : RelTerm) → AtR m (R.Compose r s) ≡ ComposePlaces (AtR m r) (AtR m s)
at_compose_r m r s = ap (AtR m) (sym (R.rolls-Compose r s)) ∙ at_roll_r m (F.Compose r s)

pub apart_none : (m : Scene) → Apart m P.None ≡ PartsApart NoParts NoParts
apart_none m = ap (Apart m) (sym P.rolls-None) ∙ apart_roll m F.None

pub apart_empty : (m : Scene) → Apart m P.Empty ≡ PartsApart NoParts NoParts
apart_empty m = ap (Apart m) (sym P.rolls-Empty) ∙ apart_roll m F.Empty

pub apart_class : (m : Scene) (k : ℕ) → Apart m (P.Class k) ≡ PartsApart NoParts NoParts
apart_class m k = ap (Apart m) (sym (P.rolls-Class k)) ∙ apart_roll m (F.Class k)

pub apart_one : (m : Scene) (s : ℕ) → Apart m (P.One s) ≡ PartsApart NoParts NoParts
apart_one m s = ap (Apart m) (sym (P.rolls-One s)) ∙ apart_roll m (F.One s)

pub apart_union : (m : Scene) (x y : PathTerm) → Apart m (P.Union x y) ≡ PartsApart (Apart m x) (Apart m y)
apart_union m x y = ap (Apart m) (sym (P.rolls-Union x y)) ∙ apart_roll m (F.PathTerm::Union x y)

pub apart_concat : (m : Scene) (x y : PathTerm) → Apart m (P.Concat x y) ≡ PartsApart (Apart m x) (Apart m y)
apart_concat m x y = ap (Apart m) (sym (P.rolls-Concat x y)) ∙ apart_roll m (F.PathTerm::Concat x y)

pub apart_star : (m : Scene) (x : PathTerm) → Apart m (P.Star x) ≡ PartsApart (Apart m x) NoParts
apart_star m x = ap (Apart m) (sym (P.rolls-Star x)) ∙ apart_roll m (F.PathTerm::Star x)

pub apart_meet : (m : Scene) (x y : PathTerm) → Apart m (P.Meet x y) ≡ PartsApart (Apart m x) (Apart m y)
apart_meet m x y = ap (Apart m) (sym (P.rolls-Meet x y)) ∙ apart_roll m (F.Meet x y)

pub apart_complement : (m : Scene) (x : PathTerm) → Apart m (P.Complement x) ≡ SeenApart (At m x)
apart_complement m x = ap (Apart m) (sym (P.rolls-Complement x)) ∙ apart_roll m (F.Complement x)

pub apart_pre : (m : Scene) → Apart m P.Pre ≡ PartsApart NoParts NoParts
apart_pre m = ap (Apart m) (sym P.rolls-Pre) ∙ apart_roll m F.Pre

pub apart_post : (m : Scene) → Apart m P.Post ≡ PartsApart NoParts NoParts
apart_post m = ap (Apart m) (sym P.rolls-Post) ∙ apart_roll m F.Post

pub apart_image : (m : Scene) (x : PathTerm) (r : RelTerm) → Apart m (P.Image x r) ≡ PartsApart (Apart m x) (ApartR m r)
apart_image m x r = ap (Apart m) (sym (P.rolls-Image x r)) ∙ apart_roll m (F.Image x r)

pub apart_identity_r : (m : Scene) (x : PathTerm) → ApartR m (R.Identity x) ≡ Apart m x
apart_identity_r m x = ap (ApartR m) (sym (R.rolls-Identity x)) ∙ apart_roll_r m (F.Identity x)

pub apart_product_r : (m : Scene) (x y : PathTerm) → ApartR m (R.Product x y) ≡ PartsApart (Apart m x) (Apart m y)
apart_product_r m x y = ap (ApartR m) (sym (R.rolls-Product x y)) ∙ apart_roll_r m (F.Product x y)

pub apart_union_r : (m : Scene) (r s : RelTerm) → ApartR m (R.Union r s) ≡ PartsApart (ApartR m r) (ApartR m s)
apart_union_r m r s = ap (ApartR m) (sym (R.rolls-Union r s)) ∙ apart_roll_r m (F.RelTerm::Union r s)

pub apart_concat_r : (m : Scene) (r s : RelTerm) → ApartR m (R.Concat r s) ≡ PartsApart (ApartR m r) (ApartR m s)
apart_concat_r m r s = ap (ApartR m) (sym (R.rolls-Concat r s)) ∙ apart_roll_r m (F.RelTerm::Concat r s)

pub apart_star_r : (m : Scene) (r : RelTerm) → ApartR m (R.Star r) ≡ PartsApart (ApartR m r) NoParts
apart_star_r m r = ap (ApartR m) (sym (R.rolls-Star r)) ∙ apart_roll_r m (F.RelTerm::Star r)

pub apart_compose_r : (m : Scene) (r s : RelTerm) → ApartR m (R.Compose r s) ≡ PartsApart (ApartR m r) (ApartR m s)
apart_compose_r m r s = ap (ApartR m) (sym (R.rolls-Compose r s)) ∙ apart_roll_r m (F.Compose r s)

pub at_place : {x y : Places} → x ≡ y → (p : Place) (w : List ℕ) → x p w ↔ y p w
at_place {x} {y} e p w = ((λ h. subst (λ (z : Places). z p w) e h), λ h. subst (λ (z : Places). z p w) (sym e) h)

pub at_place_r : {x y : PairPlaces} → x ≡ y → (p : Place) (u v : List ℕ) → x p u v ↔ y p u v
at_place_r {x} {y} e p u v = ((λ h. subst (λ (z : PairPlaces). z p u v) e h), λ h. subst (λ (z : PairPlaces). z p u v) (sym e) h)

pub told : {a b : Tells} → a ≡ b → (p q : Place) → a p q ↔ b p q
told {a} {b} e p q = ((λ h. subst (λ (t : Tells). t p q) e h), λ h. subst (λ (t : Tells). t p q) (sym e) h)
