-- A term means the same in two scenes that agree on what it names, and has the same places, by induction on terms.
use Rattle.std.proofs.Common.{◌≡◌, ℕ, ◌⊎◌, inl, inr, List, sym, subst}
use Rattle.std.specs.Prelude.{◌↔◌}
use Rattle.rela_rir.specs.Words.{WordSet, Relation}
use Rattle.rela_rir.specs.Meaning.{Setting, In, InR, LayerIn, LayerInR, IsInClass}
use Rattle.rela_rir.specs.Places.{Scene, Arrivals, Places, PairPlaces, Tells, At, AtR, Apart, ApartR, LayerAt, LayerAtR, LayerApart, LayerApartR}
use Rattle.rela_rir.specs.Fixed.{Alike, IsFixed, IsFixedR, LayerIsFixed, LayerIsFixedR}
use Rattle.rela_rir.specs.Agreement.{SameWords, SameArrivals, SamePaths}
use Rattle.rela_rir.proofs.MeaningForms.{in_roll, in_roll_r}
use Rattle.rela_rir.proofs.PlaceForms.{at_roll, at_roll_r, apart_roll, apart_roll_r}
use Rattle.rela_rir.proofs.FixedForms.{fixed_roll, fixed_roll_r}
use Rattle.rela_rir.proofs.CarriedSets as sets
use Rattle.rela_rir.proofs.CarriedSets.{Carried, CarriedR}
use Rattle.rela_rir.proofs.CarriedPairs as pairs
use Rattle.rela_rir.specs.declared.term.PathTerm.{PathTerm}
use Rattle.rela_rir.specs.declared.term.RelTerm.{RelTerm}
use Rattle.rela_rir.specs.declared.term.PathTerm.TheOpen as F
use Rattle.rela_rir.specs.declared.term.PathTerm.TheViews.{roll-PathTerm, roll-RelTerm}
use Rattle.rela_rir.specs.declared.term.PathTerm.TheFolds.{map-PathTerm, map-RelTerm, ind-PathTerm, ind-RelTerm}

-- what the term has in the first scene it has in the second
abbrev pub Carries : Scene → Scene → PathTerm → Type 0
Carries m n x = Carried (In m.setting x) (In n.setting x) (At m x) (At n x) (Apart m x) (Apart n x)

abbrev pub CarriesR : Scene → Scene → RelTerm → Type 0
CarriesR m n r = CarriedR (InR m.setting r) (InR n.setting r) (AtR m r) (AtR n r) (ApartR m r) (ApartR n r)

-- likewise of a layer, where it is given by its form
abbrev LayerCarries : Scene → Scene → F.PathTerm-F PathTerm RelTerm → Type 0
LayerCarries m n z =
    Carried (LayerIn m.setting (In m.setting) (InR m.setting) z) (LayerIn n.setting (In n.setting) (InR n.setting) z)
    (LayerAt m (λ x. x) (λ r. r) (At m) (AtR m) z) (LayerAt n (λ x. x) (λ r. r) (At n) (AtR n) z)
    (LayerApart m (λ x. x) (Apart m) (ApartR m) z) (LayerApart n (λ x. x) (Apart n) (ApartR n) z)

abbrev LayerCarriesR : Scene → Scene → F.RelTerm-F PathTerm RelTerm → Type 0
LayerCarriesR m n z =
    CarriedR (LayerInR m.setting (In m.setting) (InR m.setting) z) (LayerInR n.setting (In n.setting) (InR n.setting) z)
    (LayerAtR m (λ x. x) (λ r. r) (At m) (AtR m) z) (LayerAtR n (λ x. x) (λ r. r) (At n) (AtR n) z)
    (LayerApartR m (λ x. x) (Apart m) (ApartR m) z) (LayerApartR n (λ x. x) (Apart n) (ApartR n) z)

carried_as : (X X' Y Y' : WordSet) (x x' y y' : Places) (a a' b b' : Tells) → X ≡ X' → Y ≡ Y' → x ≡ x' → y ≡ y' → a ≡ a' → b ≡ b' →
    Carried X' Y' x' y' a' b' → Carried X Y x y a b
carried_as X X' Y Y' x x' y y' a a' b b' one two three four five six c =
    subst (λ (Z : WordSet). Carried Z Y x y a b) (sym one)
    (subst (λ (Z : WordSet). Carried X' Z x y a b) (sym two)
    (subst (λ (p : Places). Carried X' Y' p y a b) (sym three)
    (subst (λ (p : Places). Carried X' Y' x' p a b) (sym four)
    (subst (λ (t : Tells). Carried X' Y' x' y' t b) (sym five)
    (subst (λ (t : Tells). Carried X' Y' x' y' a' t) (sym six) c)))))

carried_as_r : (X X' Y Y' : Relation) (x x' y y' : PairPlaces) (a a' b b' : Tells) → X ≡ X' → Y ≡ Y' → x ≡ x' → y ≡ y' → a ≡ a' → b ≡ b' →
    CarriedR X' Y' x' y' a' b' → CarriedR X Y x y a b
carried_as_r X X' Y Y' x x' y y' a a' b b' one two three four five six c =
    subst (λ (Z : Relation). CarriedR Z Y x y a b) (sym one)
    (subst (λ (Z : Relation). CarriedR X' Z x y a b) (sym two)
    (subst (λ (p : PairPlaces). CarriedR X' Y' p y a b) (sym three)
    (subst (λ (p : PairPlaces). CarriedR X' Y' x' p a b) (sym four)
    (subst (λ (t : Tells). CarriedR X' Y' x' y' t b) (sym five)
    (subst (λ (t : Tells). CarriedR X' Y' x' y' a' t) (sym six) c)))))

rolled : (m n : Scene) (z : F.PathTerm-F PathTerm RelTerm) → LayerCarries m n z → Carries m n (roll-PathTerm z)
rolled m n z = carried_as _ _ _ _ _ _ _ _ _ _ _ _ (in_roll m.setting z) (in_roll n.setting z) (at_roll m z) (at_roll n z) (apart_roll m z) (apart_roll n z)

rolled_r : (m n : Scene) (z : F.RelTerm-F PathTerm RelTerm) → LayerCarriesR m n z → CarriesR m n (roll-RelTerm z)
rolled_r m n z = carried_as_r _ _ _ _ _ _ _ _ _ _ _ _ (in_roll_r m.setting z) (in_roll_r n.setting z) (at_roll_r m z) (at_roll_r n z) (apart_roll_r m z) (apart_roll_r n z)

first : {A B C : Type 0} → (A × B) ⊎ C → A ⊎ C
first (inl both) = inl both.0
first (inr c) = inr c

second : {A B C : Type 0} → (A × B) ⊎ C → B ⊎ C
second (inl both) = inl both.1
second (inr c) = inr c

same_paths : {m n : Scene} → ⊥ ⊎ SamePaths m n → SamePaths m n
same_paths (inl never) = absurd never
same_paths (inr same) = same

-- One layer of a term, where it is given which terms its parts are, and that they carry over both ways.
module _ {X Y : Type 0} (term : X → PathTerm) (relation : Y → RelTerm) where
  layer : (m n : Scene) → Alike m.setting n.setting →
      ((e : X) → IsFixed (term e) ⊎ SamePaths m n → Carries m n (term e) × Carries n m (term e)) →
      ((e : Y) → IsFixedR (relation e) ⊎ SamePaths m n → CarriesR m n (relation e) × CarriesR n m (relation e)) →
      (y : F.PathTerm-F X Y) → LayerIsFixed IsFixed IsFixedR (map-PathTerm X Y PathTerm RelTerm term relation y) ⊎ SamePaths m n →
      LayerCarries m n (map-PathTerm X Y PathTerm RelTerm term relation y)
  layer m n alike part part_r F.None named = sets.same _ _ _
  layer m n alike part part_r F.Empty named = sets.same _ _ _
  layer m n alike part part_r (F.Class k) named = sets.letters (IsInClass m.setting k) (IsInClass n.setting k) (sets.entry m.setting n.setting alike k)
  layer m n alike part part_r (F.One s) named = sets.same _ _ _
  layer m n alike part part_r (F.PathTerm::Union e d) named = sets.union (part e (first named)).0 (part d (second named)).0
  layer m n alike part part_r (F.PathTerm::Concat e d) named = sets.joined (part e (first named)).0 (part d (second named)).0
  layer m n alike part part_r (F.PathTerm::Star e) named = sets.star (part e named).0
  layer m n alike part part_r (F.Meet e d) named = sets.meet (part e (first named)).0 (part d (second named)).0
  layer m n alike part part_r (F.Complement e) named = sets.complement (part e named).0 _ _ alike.path_symbols (part e named).1
  layer m n alike part part_r F.Pre named = (let same = same_paths named in sets.paths _ _ _ _ same.pre same.pre_places)
  layer m n alike part part_r F.Post named = (let same = same_paths named in sets.paths _ _ _ _ same.post same.post_places)
  layer m n alike part part_r (F.Image e r) named = sets.image (part e (first named)).0 (part_r r (second named)).0

  layer_r : (m n : Scene) →
      ((e : X) → IsFixed (term e) ⊎ SamePaths m n → Carries m n (term e) × Carries n m (term e)) →
      ((e : Y) → IsFixedR (relation e) ⊎ SamePaths m n → CarriesR m n (relation e) × CarriesR n m (relation e)) →
      (y : F.RelTerm-F X Y) → LayerIsFixedR IsFixed IsFixedR (map-RelTerm X Y PathTerm RelTerm term relation y) ⊎ SamePaths m n →
      LayerCarriesR m n (map-RelTerm X Y PathTerm RelTerm term relation y)
  layer_r m n part part_r (F.Identity e) named = pairs.identity (part e named).0
  layer_r m n part part_r (F.Product e d) named = pairs.product (part e (first named)).0 (part d (second named)).0
  layer_r m n part part_r (F.RelTerm::Union r s) named = pairs.union (part_r r (first named)).0 (part_r s (second named)).0
  layer_r m n part part_r (F.RelTerm::Concat r s) named = pairs.joined (part_r r (first named)).0 (part_r s (second named)).0
  layer_r m n part part_r (F.RelTerm::Star r) named = pairs.star (part_r r named).0
  layer_r m n part part_r (F.Compose r s) named = pairs.composed (part_r r (first named)).0 (part_r s (second named)).0

turned_words : (X Y : WordSet) → SameWords X Y → SameWords Y X
turned_words X Y same w = ((same w).1, (same w).0)

turned_arrivals : (a b : Arrivals) → SameArrivals a b → SameArrivals b a
turned_arrivals a b same = record { at_node = λ n. turned_words _ _ (same.at_node n); at_end = turned_words _ _ same.at_end }

pub turned_paths : (m n : Scene) → SamePaths m n → SamePaths n m
turned_paths m n same = record {
  pre = turned_words _ _ same.pre;
  post = turned_words _ _ same.post;
  pre_places = turned_arrivals _ _ same.pre_places;
  post_places = turned_arrivals _ _ same.post_places;
}

pub turned_setting : (m n : Setting) → Alike m n → Alike n m
turned_setting m n alike = record { classes = sym alike.classes; path_symbols = sym alike.path_symbols }

pub turned : {A : Type 0} (m n : Scene) → A ⊎ SamePaths m n → A ⊎ SamePaths n m
turned m n (inl a) = inl a
turned m n (inr same) = inr (turned_paths m n same)

opened : {A B C : Type 0} → A ≡ B → A ⊎ C → B ⊎ C
opened {A} {B} {C} same has = subst (λ (T : Type 0). T ⊎ C) same has

-- what the term has it has in both scenes, if they agree on the path sets that it names
abbrev Same : (m n : Scene) → PathTerm → Type 0
Same m n x = IsFixed x ⊎ SamePaths m n → Carries m n x × Carries n m x

abbrev SameR : (m n : Scene) → RelTerm → Type 0
SameR m n r = IsFixedR r ⊎ SamePaths m n → CarriesR m n r × CarriesR n m r

module _ (m n : Scene) (alike : Alike m.setting n.setting) where
  abbrev Path : Type 0
  Path = (x : PathTerm) × Same m n x

  abbrev Related : Type 0
  Related = (r : RelTerm) × SameR m n r

  abbrev plain : F.PathTerm-F Path Related → F.PathTerm-F PathTerm RelTerm
  plain y = map-PathTerm Path Related PathTerm RelTerm (λ e. e.0) (λ e. e.0) y

  abbrev plain_r : F.RelTerm-F Path Related → F.RelTerm-F PathTerm RelTerm
  plain_r y = map-RelTerm Path Related PathTerm RelTerm (λ e. e.0) (λ e. e.0) y

  back : (e : Path) → IsFixed e.0 ⊎ SamePaths n m → Carries n m e.0 × Carries m n e.0
  back e named = (let both = e.1 (turned n m named) in (both.1, both.0))

  back_r : (e : Related) → IsFixedR e.0 ⊎ SamePaths n m → CarriesR n m e.0 × CarriesR m n e.0
  back_r e named = (let both = e.1 (turned n m named) in (both.1, both.0))

  both_ways : (y : F.PathTerm-F Path Related) → Same m n (roll-PathTerm (plain y))
  both_ways y fixed =
      let named = opened (fixed_roll (plain y)) fixed in (
        rolled m n (plain y) (layer (λ e. e.0) (λ e. e.0) m n alike (λ e. e.1) (λ e. e.1) y named),
        rolled n m (plain y) (layer (λ e. e.0) (λ e. e.0) n m (turned_setting m.setting n.setting alike) back back_r y (turned m n named)),
      )

  both_ways_r : (y : F.RelTerm-F Path Related) → SameR m n (roll-RelTerm (plain_r y))
  both_ways_r y fixed =
      let named = opened (fixed_roll_r (plain_r y)) fixed in (
        rolled_r m n (plain_r y) (layer_r (λ e. e.0) (λ e. e.0) m n (λ e. e.1) (λ e. e.1) y named),
        rolled_r n m (plain_r y) (layer_r (λ e. e.0) (λ e. e.0) n m back back_r y (turned m n named)),
      )

  pub carries : (x : PathTerm) → IsFixed x ⊎ SamePaths m n → Carries m n x × Carries n m x
  carries =
      ind-PathTerm (Same m n) (SameR m n)
      (λ x y is. subst (λ z. Same m n (roll-PathTerm z)) is (both_ways y))
      (λ x y is. subst (λ z. SameR m n (roll-RelTerm z)) is (both_ways_r y))

  pub carries_r : (r : RelTerm) → IsFixedR r ⊎ SamePaths m n → CarriesR m n r × CarriesR n m r
  carries_r =
      ind-RelTerm (Same m n) (SameR m n)
      (λ x y is. subst (λ z. Same m n (roll-PathTerm z)) is (both_ways y))
      (λ x y is. subst (λ z. SameR m n (roll-RelTerm z)) is (both_ways_r y))

abbrev nowhere : Arrivals
nowhere = record { at_node = λ _ _. ⊥; at_end = λ _. ⊥ }

-- the scene of a setting, in which nothing reaches the places of the path sets
abbrev bare : Setting → Scene
bare m = record { setting = m; markers = 0; pre = nowhere; post = nowhere }

pub same_words : (m n : Setting) → Alike m n → (x : PathTerm) → IsFixed x → (w : List ℕ) → In m x w ↔ In n x w
same_words m n alike x fixed w = (let both = carries (bare m) (bare n) alike x (inl fixed) in (both.0.words w, both.1.words w))

pub same_pairs : (m n : Setting) → Alike m n → (r : RelTerm) → IsFixedR r → (u v : List ℕ) → InR m r u v ↔ InR n r u v
same_pairs m n alike r fixed u v = (let both = carries_r (bare m) (bare n) alike r (inl fixed) in (both.0.pairs u v, both.1.pairs u v))
