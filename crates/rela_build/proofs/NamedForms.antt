-- Which symbols each form of term names.
use Rattle.std.proofs.Common.{◌≡◌, ◌↔◌, ◌∙◌, ℕ, refl, sym, ap, subst}
use Rattle.rela_build.specs.Named.{LayerNames, LayerNamesR, NamedForms, Names, NamesR}
use Rattle.rela_rir.specs.declared.term.PathTerm.{PathTerm}
use Rattle.rela_rir.specs.declared.term.RelTerm.{RelTerm}
use Rattle.rela_rir.specs.declared.term.PathTerm.TheOpen as F
use Rattle.rela_rir.specs.declared.term.PathTerm.TheVariants as P
use Rattle.rela_rir.specs.declared.term.RelTerm.TheVariants as R
use Rattle.rela_rir.specs.declared.term.PathTerm.TheViews.{roll-PathTerm, roll-RelTerm}
use Rattle.rela_rir.specs.declared.term.PathTerm.TheFolds.{map-PathTerm, map-RelTerm, rec-roll-PathTerm, rec-roll-RelTerm}

module _ (Q : ℕ → Type 0) where
  natural : (X Y : Type 0) (v : X → PathTerm) (v' : Y → RelTerm) (k : PathTerm → Type 0) (k' : RelTerm → Type 0) (x : F.PathTerm-F X Y) →
      LayerNames Q (λ p. k (v p)) (λ p. k' (v' p)) x ≡ LayerNames Q k k' (map-PathTerm X Y PathTerm RelTerm v v' x)
  natural X Y v v' k k' F.None = refl
  natural X Y v v' k k' F.Empty = refl
  natural X Y v v' k k' (F.Class n) = refl
  natural X Y v v' k k' (F.One s) = refl
  natural X Y v v' k k' (F.PathTerm::Union a b) = refl
  natural X Y v v' k k' (F.PathTerm::Concat a b) = refl
  natural X Y v v' k k' (F.PathTerm::Star a) = refl
  natural X Y v v' k k' (F.Meet a b) = refl
  natural X Y v v' k k' (F.Complement a) = refl
  natural X Y v v' k k' F.Pre = refl
  natural X Y v v' k k' F.Post = refl
  natural X Y v v' k k' (F.Image a r) = refl

  natural_r : (X Y : Type 0) (v : X → PathTerm) (v' : Y → RelTerm) (k : PathTerm → Type 0) (k' : RelTerm → Type 0) (x : F.RelTerm-F X Y) →
      LayerNamesR Q (λ p. k (v p)) (λ p. k' (v' p)) x ≡ LayerNamesR Q k k' (map-RelTerm X Y PathTerm RelTerm v v' x)
  natural_r X Y v v' k k' (F.Identity a) = refl
  natural_r X Y v v' k k' (F.Product a b) = refl
  natural_r X Y v v' k k' (F.RelTerm::Union r t) = refl
  natural_r X Y v v' k k' (F.RelTerm::Concat r t) = refl
  natural_r X Y v v' k k' (F.RelTerm::Star r) = refl
  natural_r X Y v v' k k' (F.Compose r t) = refl

  names_roll : (x : F.PathTerm-F PathTerm RelTerm) → Names Q (roll-PathTerm x) ≡ LayerNames Q (Names Q) (NamesR Q) x
  unfolding Names NamesR
  names_roll x = rec-roll-PathTerm (Type 0) (Type 0) (λ X Y _ _ part part_r layer. LayerNames Q part part_r layer) (λ X Y _ _ part part_r layer. LayerNamesR Q part part_r layer) natural x

  names_roll_r : (x : F.RelTerm-F PathTerm RelTerm) → NamesR Q (roll-RelTerm x) ≡ LayerNamesR Q (Names Q) (NamesR Q) x
  unfolding Names NamesR
  names_roll_r x = rec-roll-RelTerm (Type 0) (Type 0) (λ X Y _ _ part part_r layer. LayerNames Q part part_r layer) (λ X Y _ _ part part_r layer. LayerNamesR Q part part_r layer) natural_r x

  -- by what its layer names
  as_layer : (z : F.PathTerm-F PathTerm RelTerm) (t : PathTerm) → roll-PathTerm z ≡ t → Names Q t ↔ LayerNames Q (Names Q) (NamesR Q) z
  as_layer z t rolls =
      subst (λ (s : PathTerm). Names Q s ↔ LayerNames Q (Names Q) (NamesR Q) z) rolls
      (subst (λ (T : Type 0). T ↔ LayerNames Q (Names Q) (NamesR Q) z) (sym (names_roll z)) (λ h. h, λ h. h))

  as_layer_r : (z : F.RelTerm-F PathTerm RelTerm) (t : RelTerm) → roll-RelTerm z ≡ t → NamesR Q t ↔ LayerNamesR Q (Names Q) (NamesR Q) z
  as_layer_r z t rolls =
      subst (λ (s : RelTerm). NamesR Q s ↔ LayerNamesR Q (Names Q) (NamesR Q) z) rolls
      (subst (λ (T : Type 0). T ↔ LayerNamesR Q (Names Q) (NamesR Q) z) (sym (names_roll_r z)) (λ h. h, λ h. h))

  pub named_forms : NamedForms Q
  named_forms = record {
    none = (as_layer F.None _ P.rolls-None).1 tt;
    empty = (as_layer F.Empty _ P.rolls-Empty).1 tt;
    class = λ k. (as_layer (F.Class k) _ (P.rolls-Class k)).1 tt;
    one = λ s. as_layer (F.One s) _ (P.rolls-One s);
    union = λ x y. as_layer (F.PathTerm::Union x y) _ (P.rolls-Union x y);
    concat = λ x y. as_layer (F.PathTerm::Concat x y) _ (P.rolls-Concat x y);
    star = λ x. as_layer (F.PathTerm::Star x) _ (P.rolls-Star x);
    meet = λ x y. as_layer (F.Meet x y) _ (P.rolls-Meet x y);
    complement = λ x. as_layer (F.Complement x) _ (P.rolls-Complement x);
    before = (as_layer F.Pre _ P.rolls-Pre).1 tt;
    after = (as_layer F.Post _ P.rolls-Post).1 tt;
    image = λ x r. as_layer (F.Image x r) _ (P.rolls-Image x r);
    identity = λ x. as_layer_r (F.Identity x) _ (R.rolls-Identity x);
    product = λ x y. as_layer_r (F.Product x y) _ (R.rolls-Product x y);
    either = λ r s. as_layer_r (F.RelTerm::Union r s) _ (R.rolls-Union r s);
    joined = λ r s. as_layer_r (F.RelTerm::Concat r s) _ (R.rolls-Concat r s);
    repeated = λ r. as_layer_r (F.RelTerm::Star r) _ (R.rolls-Star r);
    compose = λ r s. as_layer_r (F.Compose r s) _ (R.rolls-Compose r s);
  }

-- what was lent of a part is the part
pub part_named : {X : Type 0} (N : X → Type 0) (x a : X) → x ≡ a → N a → N x
part_named N x a is named = subst N (sym is) named

-- a term of one part, or of two, that were lent
pub form_of_one : {X Z : Type 0} (f : X → Z) (t : Z) (a x : X) → t ≡ f a → x ≡ a → t ≡ f x
form_of_one f t a x is part = is ∙ ap f (sym part)

pub form_of_two : {X Y Z : Type 0} (f : X → Y → Z) (t : Z) (a x : X) (b y : Y) → t ≡ f a b → x ≡ a → y ≡ b → t ≡ f x y
form_of_two {X} {Y} f t a x b y is first second = is ∙ ap (λ (z : X). f z b) (sym first) ∙ ap (λ (z : Y). f x z) (sym second)
