-- What each form of term means, as equations.
use Rattle.std.proofs.Common.{◌≡◌, ◌∙◌, ℕ, ◌⊎◌, [], ◌∷◌, sym, ap, refl}
use Rattle.rela_rir.specs.Words.{WordSet, Relation, Concatenation, Star, ImageOf, PairConcatenation, PairStar, Composition}
use Rattle.rela_rir.specs.Meaning.{Setting, In, InR, LayerIn, LayerInR, IsInClass, IsPathWord}
use Rattle.rela_rir.specs.declared.term.PathTerm.{PathTerm}
use Rattle.rela_rir.specs.declared.term.RelTerm.{RelTerm}
use Rattle.rela_rir.specs.declared.term.PathTerm.TheOpen as F
use Rattle.rela_rir.specs.declared.term.PathTerm.TheVariants as P
use Rattle.rela_rir.specs.declared.term.RelTerm.TheVariants as R
use Rattle.rela_rir.specs.declared.term.PathTerm.TheViews.{roll-PathTerm, roll-RelTerm}
use Rattle.rela_rir.specs.declared.term.PathTerm.TheFolds.{map-PathTerm, map-RelTerm, rec-roll-PathTerm, rec-roll-RelTerm}

natural : (m : Setting) (X Y : Type 0) (v : X → PathTerm) (v' : Y → RelTerm) (k : PathTerm → WordSet) (k' : RelTerm → Relation) (x : F.PathTerm-F X Y) → LayerIn m (λ p. k (v p)) (λ p. k' (v' p)) x ≡ LayerIn m k k' (map-PathTerm X Y PathTerm RelTerm v v' x)
natural m X Y v v' k k' F.None = refl
natural m X Y v v' k k' F.Empty = refl
natural m X Y v v' k k' (F.Class n) = refl
natural m X Y v v' k k' (F.One s) = refl
natural m X Y v v' k k' (F.PathTerm::Union a b) = refl
natural m X Y v v' k k' (F.PathTerm::Concat a b) = refl
natural m X Y v v' k k' (F.PathTerm::Star a) = refl
natural m X Y v v' k k' (F.Meet a b) = refl
natural m X Y v v' k k' (F.Complement a) = refl
natural m X Y v v' k k' F.Pre = refl
natural m X Y v v' k k' F.Post = refl
natural m X Y v v' k k' (F.Image a r) = refl

natural_r : (m : Setting) (X Y : Type 0) (v : X → PathTerm) (v' : Y → RelTerm) (k : PathTerm → WordSet) (k' : RelTerm → Relation) (x : F.RelTerm-F X Y) → LayerInR m (λ p. k (v p)) (λ p. k' (v' p)) x ≡ LayerInR m k k' (map-RelTerm X Y PathTerm RelTerm v v' x)
natural_r m X Y v v' k k' (F.Identity a) = refl
natural_r m X Y v v' k k' (F.Product a b) = refl
natural_r m X Y v v' k k' (F.RelTerm::Union r s) = refl
natural_r m X Y v v' k k' (F.RelTerm::Concat r s) = refl
natural_r m X Y v v' k k' (F.RelTerm::Star r) = refl
natural_r m X Y v v' k k' (F.Compose r s) = refl

in_roll : (m : Setting) (x : F.PathTerm-F PathTerm RelTerm) → In m (roll-PathTerm x) ≡ LayerIn m (In m) (InR m) x
in_roll m x = rec-roll-PathTerm WordSet Relation (λ X Y _ _ set relation layer. LayerIn m set relation layer) (λ X Y _ _ set relation layer. LayerInR m set relation layer) (natural m) x

in_roll_r : (m : Setting) (x : F.RelTerm-F PathTerm RelTerm) → InR m (roll-RelTerm x) ≡ LayerInR m (In m) (InR m) x
in_roll_r m x = rec-roll-RelTerm WordSet Relation (λ X Y _ _ set relation layer. LayerIn m set relation layer) (λ X Y _ _ set relation layer. LayerInR m set relation layer) (natural_r m) x

pub in_none : (m : Setting) → In m P.None ≡ (λ w. ⊥)
in_none m = ap (In m) (sym P.rolls-None) ∙ in_roll m F.None

pub in_empty : (m : Setting) → In m P.Empty ≡ (λ w. w ≡ [])
in_empty m = ap (In m) (sym P.rolls-Empty) ∙ in_roll m F.Empty

pub in_class : (m : Setting) (k : ℕ) → In m (P.Class k) ≡ (λ w. (s : ℕ) × (w ≡ s ∷ []) × IsInClass m k s)
in_class m k = ap (In m) (sym (P.rolls-Class k)) ∙ in_roll m (F.Class k)

pub in_one : (m : Setting) (s : ℕ) → In m (P.One s) ≡ (λ w. w ≡ s ∷ [])
in_one m s = ap (In m) (sym (P.rolls-One s)) ∙ in_roll m (F.One s)

pub in_union : (m : Setting) (x y : PathTerm) → In m (P.Union x y) ≡ (λ w. In m x w ⊎ In m y w)
in_union m x y = ap (In m) (sym (P.rolls-Union x y)) ∙ in_roll m (F.PathTerm::Union x y)

pub in_concat : (m : Setting) (x y : PathTerm) → In m (P.Concat x y) ≡ (λ w. Concatenation (In m x) (In m y) w)
in_concat m x y = ap (In m) (sym (P.rolls-Concat x y)) ∙ in_roll m (F.PathTerm::Concat x y)

pub in_star : (m : Setting) (x : PathTerm) → In m (P.Star x) ≡ (λ w. Star (In m x) w)
in_star m x = ap (In m) (sym (P.rolls-Star x)) ∙ in_roll m (F.PathTerm::Star x)

pub in_meet : (m : Setting) (x y : PathTerm) → In m (P.Meet x y) ≡ (λ w. In m x w × In m y w)
in_meet m x y = ap (In m) (sym (P.rolls-Meet x y)) ∙ in_roll m (F.Meet x y)

pub in_complement : (m : Setting) (x : PathTerm) → In m (P.Complement x) ≡ (λ w. IsPathWord m.path_symbols w × (¬ In m x w))
in_complement m x = ap (In m) (sym (P.rolls-Complement x)) ∙ in_roll m (F.Complement x)

pub in_pre : (m : Setting) → In m P.Pre ≡ (λ w. m.pre w)
in_pre m = ap (In m) (sym P.rolls-Pre) ∙ in_roll m F.Pre

pub in_post : (m : Setting) → In m P.Post ≡ (λ w. m.post w)
in_post m = ap (In m) (sym P.rolls-Post) ∙ in_roll m F.Post

pub in_image : (m : Setting) (x : PathTerm) (r : RelTerm) → In m (P.Image x r) ≡ (λ w. ImageOf (In m x) (InR m r) w)
in_image m x r = ap (In m) (sym (P.rolls-Image x r)) ∙ in_roll m (F.Image x r)

pub in_identity_r : (m : Setting) (x : PathTerm) → InR m (R.Identity x) ≡ (λ u v. (u ≡ v) × In m x u)
in_identity_r m x = ap (InR m) (sym (R.rolls-Identity x)) ∙ in_roll_r m (F.Identity x)

pub in_product_r : (m : Setting) (x y : PathTerm) → InR m (R.Product x y) ≡ (λ u v. In m x u × In m y v)
in_product_r m x y = ap (InR m) (sym (R.rolls-Product x y)) ∙ in_roll_r m (F.Product x y)

pub in_union_r : (m : Setting) (r s : RelTerm) → InR m (R.Union r s) ≡ (λ u v. InR m r u v ⊎ InR m s u v)
in_union_r m r s = ap (InR m) (sym (R.rolls-Union r s)) ∙ in_roll_r m (F.RelTerm::Union r s)

pub in_concat_r : (m : Setting) (r s : RelTerm) → InR m (R.Concat r s) ≡ (λ u v. PairConcatenation (InR m r) (InR m s) u v)
in_concat_r m r s = ap (InR m) (sym (R.rolls-Concat r s)) ∙ in_roll_r m (F.RelTerm::Concat r s)

pub in_star_r : (m : Setting) (r : RelTerm) → InR m (R.Star r) ≡ (λ u v. PairStar (InR m r) u v)
in_star_r m r = ap (InR m) (sym (R.rolls-Star r)) ∙ in_roll_r m (F.RelTerm::Star r)

pub in_compose_r : (m : Setting) (r s : RelTerm) → InR m (R.Compose r s) ≡ (λ u v. Composition (InR m r) (InR m s) u v)
in_compose_r m r s = ap (InR m) (sym (R.rolls-Compose r s)) ∙ in_roll_r m (F.Compose r s)
