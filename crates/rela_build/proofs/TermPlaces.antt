-- The places of the forms of term that have no parts, and what tells them apart, as equations.
use Rattle.std.proofs.Common.{◌≡◌, ◌∙◌, ℕ, sym, ap, refl}
use Rattle.rela_rir.specs.Meaning.{IsInClass}
use Rattle.rela_rir.specs.Places.{Scene, Places, PairPlaces, Tells, At, AtR, Apart, ApartR, LayerAt, LayerAtR, LayerApart, LayerApartR, LetterPlaces, PathSetPlaces, PartsApart, NoParts}
use Rattle.rela_rir.specs.declared.term.PathTerm.{PathTerm}
use Rattle.rela_rir.specs.declared.term.RelTerm.{RelTerm}
use Rattle.rela_rir.specs.declared.term.PathTerm.TheOpen as F
use Rattle.rela_rir.specs.declared.term.PathTerm.TheVariants as P
use Rattle.rela_rir.specs.declared.term.PathTerm.TheViews.{roll-PathTerm}
use Rattle.rela_rir.specs.declared.term.PathTerm.TheFolds.{map-PathTerm, rec-roll-PathTerm}

at_natural : (m : Scene) (X Y : Type 0) (v : X → PathTerm) (v' : Y → RelTerm) (k : PathTerm → Places) (k' : RelTerm → PairPlaces) (x : F.PathTerm-F X Y) → LayerAt m v v' (λ p. k (v p)) (λ p. k' (v' p)) x ≡ LayerAt m (λ p. p) (λ p. p) k k' (map-PathTerm X Y PathTerm RelTerm v v' x)
at_natural m X Y v v' k k' F.None = refl
at_natural m X Y v v' k k' F.Empty = refl
at_natural m X Y v v' k k' (F.Class n) = refl
at_natural m X Y v v' k k' (F.One s) = refl
at_natural m X Y v v' k k' (F.PathTerm::Union a b) = refl
at_natural m X Y v v' k k' (F.PathTerm::Concat a b) = refl
at_natural m X Y v v' k k' (F.PathTerm::Star a) = refl
at_natural m X Y v v' k k' (F.Meet a b) = refl
at_natural m X Y v v' k k' (F.Complement a) = refl
at_natural m X Y v v' k k' F.Pre = refl
at_natural m X Y v v' k k' F.Post = refl
at_natural m X Y v v' k k' (F.Image a r) = refl

apart_natural : (m : Scene) (X Y : Type 0) (v : X → PathTerm) (v' : Y → RelTerm) (k : PathTerm → Tells) (k' : RelTerm → Tells) (x : F.PathTerm-F X Y) → LayerApart m v (λ p. k (v p)) (λ p. k' (v' p)) x ≡ LayerApart m (λ p. p) k k' (map-PathTerm X Y PathTerm RelTerm v v' x)
apart_natural m X Y v v' k k' F.None = refl
apart_natural m X Y v v' k k' F.Empty = refl
apart_natural m X Y v v' k k' (F.Class n) = refl
apart_natural m X Y v v' k k' (F.One s) = refl
apart_natural m X Y v v' k k' (F.PathTerm::Union a b) = refl
apart_natural m X Y v v' k k' (F.PathTerm::Concat a b) = refl
apart_natural m X Y v v' k k' (F.PathTerm::Star a) = refl
apart_natural m X Y v v' k k' (F.Meet a b) = refl
apart_natural m X Y v v' k k' (F.Complement a) = refl
apart_natural m X Y v v' k k' F.Pre = refl
apart_natural m X Y v v' k k' F.Post = refl
apart_natural m X Y v v' k k' (F.Image a r) = refl

at_roll : (m : Scene) (x : F.PathTerm-F PathTerm RelTerm) → At m (roll-PathTerm x) ≡ LayerAt m (λ p. p) (λ p. p) (At m) (AtR m) x
at_roll m x = rec-roll-PathTerm Places PairPlaces (λ X Y term relation at pairs layer. LayerAt m term relation at pairs layer) (λ X Y term relation at pairs layer. LayerAtR m term relation at pairs layer) (at_natural m) x

apart_roll : (m : Scene) (x : F.PathTerm-F PathTerm RelTerm) → Apart m (roll-PathTerm x) ≡ LayerApart m (λ p. p) (Apart m) (ApartR m) x
apart_roll m x = rec-roll-PathTerm Tells Tells (λ X Y term _ apart apart_r layer. LayerApart m term apart apart_r layer) (λ X Y term _ apart apart_r layer. LayerApartR m term apart apart_r layer) (apart_natural m) x

pub at_class : (m : Scene) (k : ℕ) → At m (P.Class k) ≡ LetterPlaces (IsInClass m.setting k)
at_class m k = ap (At m) (sym (P.rolls-Class k)) ∙ at_roll m (F.Class k)

pub at_one : (m : Scene) (s : ℕ) → At m (P.One s) ≡ LetterPlaces (λ t. t ≡ s)
at_one m s = ap (At m) (sym (P.rolls-One s)) ∙ at_roll m (F.One s)

pub at_pre : (m : Scene) → At m P.Pre ≡ PathSetPlaces m.pre
at_pre m = ap (At m) (sym P.rolls-Pre) ∙ at_roll m F.Pre

pub at_post : (m : Scene) → At m P.Post ≡ PathSetPlaces m.post
at_post m = ap (At m) (sym P.rolls-Post) ∙ at_roll m F.Post

pub apart_class : (m : Scene) (k : ℕ) → Apart m (P.Class k) ≡ PartsApart NoParts NoParts
apart_class m k = ap (Apart m) (sym (P.rolls-Class k)) ∙ apart_roll m (F.Class k)

pub apart_one : (m : Scene) (s : ℕ) → Apart m (P.One s) ≡ PartsApart NoParts NoParts
apart_one m s = ap (Apart m) (sym (P.rolls-One s)) ∙ apart_roll m (F.One s)

pub apart_pre : (m : Scene) → Apart m P.Pre ≡ PartsApart NoParts NoParts
apart_pre m = ap (Apart m) (sym P.rolls-Pre) ∙ apart_roll m F.Pre

pub apart_post : (m : Scene) → Apart m P.Post ≡ PartsApart NoParts NoParts
apart_post m = ap (Apart m) (sym P.rolls-Post) ∙ apart_roll m F.Post
