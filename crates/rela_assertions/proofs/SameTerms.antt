-- A term has the same words where each path set has the same words.
use Rattle.std.proofs.Common.{◌≡◌, ◌∙◌, ℕ, inl, inr, List, [], ◌∷◌, refl, sym, subst}
use Rattle.std.specs.Prelude.{◌↔◌}
use Rattle.std.specs.List.{AllZip}
use Rattle.std.proofs.lemmas.List.Elements.{All-weaker}
use Rattle.rela_rir.specs.Agreement.{SameWords}
use Rattle.rela_rir.specs.Meaning.{Setting, In, InR, LayerIn, LayerInR}
use Rattle.rela_rir.specs.Words.{WordSet, Relation}
use Rattle.rela_rir.specs.declared.set.SymbolSet.{SymbolSet}
use Rattle.rela_rir.specs.declared.term.PathTerm.{PathTerm}
use Rattle.rela_rir.specs.declared.term.RelTerm.{RelTerm}
use Rattle.rela_rir.specs.declared.term.PathTerm.TheOpen as F
use Rattle.rela_rir.specs.declared.term.PathTerm.TheViews.{roll-PathTerm, roll-RelTerm}
use Rattle.rela_rir.specs.declared.term.PathTerm.TheFolds.{map-PathTerm, map-RelTerm, rec-roll-PathTerm, rec-roll-RelTerm, ind-PathTerm}

abbrev SamePairs : Relation → Relation → Type 0
SamePairs R S = (u v : List ℕ) → R u v ↔ S u v

-- ---- what a term means, by its outermost layer

module _ (m : Setting) (X Y : Type 0) (v : X → PathTerm) (v' : Y → RelTerm) where
  natural : (k : PathTerm → WordSet) (k' : RelTerm → Relation) (x : F.PathTerm-F X Y) → LayerIn m (λ p. k (v p)) (λ p. k' (v' p)) x ≡ LayerIn m k k' (map-PathTerm X Y PathTerm RelTerm v v' x)
  natural k k' F.None = refl
  natural k k' F.Empty = refl
  natural k k' (F.Class n) = refl
  natural k k' (F.One s) = refl
  natural k k' (F.PathTerm::Union a b) = refl
  natural k k' (F.PathTerm::Concat a b) = refl
  natural k k' (F.PathTerm::Star a) = refl
  natural k k' (F.Meet a b) = refl
  natural k k' (F.Complement a) = refl
  natural k k' F.Pre = refl
  natural k k' F.Post = refl
  natural k k' (F.Image a r) = refl

  natural_r : (k : PathTerm → WordSet) (k' : RelTerm → Relation) (x : F.RelTerm-F X Y) → LayerInR m (λ p. k (v p)) (λ p. k' (v' p)) x ≡ LayerInR m k k' (map-RelTerm X Y PathTerm RelTerm v v' x)
  natural_r k k' (F.Identity a) = refl
  natural_r k k' (F.Product a b) = refl
  natural_r k k' (F.RelTerm::Union r s) = refl
  natural_r k k' (F.RelTerm::Concat r s) = refl
  natural_r k k' (F.RelTerm::Star r) = refl
  natural_r k k' (F.Compose r s) = refl

module _ (m : Setting) (X Y : Type 0) (v : X → PathTerm) (v' : Y → RelTerm) where
  opened : (x : F.PathTerm-F X Y) → In m (roll-PathTerm (map-PathTerm X Y PathTerm RelTerm v v' x)) ≡ LayerIn m (λ p. In m (v p)) (λ p. InR m (v' p)) x
  opened x =
      rec-roll-PathTerm WordSet Relation (λ A B _ _ set relation layer. LayerIn m set relation layer) (λ A B _ _ set relation layer. LayerInR m set relation layer)
      (natural m) (map-PathTerm X Y PathTerm RelTerm v v' x) ∙ sym (natural m X Y v v' (In m) (InR m) x)

  opened_r : (x : F.RelTerm-F X Y) → InR m (roll-RelTerm (map-RelTerm X Y PathTerm RelTerm v v' x)) ≡ LayerInR m (λ p. In m (v p)) (λ p. InR m (v' p)) x
  opened_r x =
      rec-roll-RelTerm WordSet Relation (λ A B _ _ set relation layer. LayerIn m set relation layer) (λ A B _ _ set relation layer. LayerInR m set relation layer)
      (natural_r m) (map-RelTerm X Y PathTerm RelTerm v v' x) ∙ sym (natural_r m X Y v v' (In m) (InR m) x)

-- ---- what a layer has

zip_within : (R S : Relation) → SamePairs R S → (us vs : List (List ℕ)) → AllZip R us vs → AllZip S us vs
zip_within R S same [] [] each = tt
zip_within R S same [] (v ∷ vs) each = absurd each
zip_within R S same (u ∷ us) [] each = absurd each
zip_within R S same (u ∷ us) (v ∷ vs) each = ((same u v).0 each.0, zip_within R S same us vs each.1)

abbrev reads : List SymbolSet → ℕ → WordSet → WordSet → Setting
reads classes symbols pre post = record { classes = classes; path_symbols = symbols; pre = pre; post = post }

-- what a layer has, it has with parts and path sets that have the same
module _ (classes : List SymbolSet) (symbols : ℕ) (p q p' q' : WordSet) (pre : SameWords p p') (post : SameWords q q')
    (X Y : Type 0) (set other : X → WordSet) (relation others : Y → Relation) (sets : (e : X) → SameWords (set e) (other e)) (relations : (e : Y) → SamePairs (relation e) (others e)) where
  layer : (x : F.PathTerm-F X Y) (w : List ℕ) → LayerIn (reads classes symbols p q) set relation x w → LayerIn (reads classes symbols p' q') other others x w
  layer F.None w has = has
  layer F.Empty w has = has
  layer (F.Class k) w has = has
  layer (F.One s) w has = has
  layer (F.PathTerm::Union a b) w (inl has) = inl ((sets a w).0 has)
  layer (F.PathTerm::Union a b) w (inr has) = inr ((sets b w).0 has)
  layer (F.PathTerm::Concat a b) w has = record {
    front = has.front;
    rest = has.rest;
    split = has.split;
    in_front = (sets a has.front).0 has.in_front;
    in_rest = (sets b has.rest).0 has.in_rest;
  }
  layer (F.PathTerm::Star a) w has = record { pieces = has.pieces; joined = has.joined; each = All-weaker (set a) (other a) (λ v. (sets a v).0) has.pieces has.each }
  layer (F.Meet a b) w has = ((sets a w).0 has.0, (sets b w).0 has.1)
  layer (F.Complement a) w has = (has.0, λ inside. has.1 ((sets a w).1 inside))
  layer F.Pre w has = (pre w).0 has
  layer F.Post w has = (post w).0 has
  layer (F.Image a r) w has = record { source = has.source; in_set = (sets a has.source).0 has.in_set; related = (relations r has.source w).0 has.related }

  layer_r : (x : F.RelTerm-F X Y) (u v : List ℕ) → LayerInR (reads classes symbols p q) set relation x u v → LayerInR (reads classes symbols p' q') other others x u v
  layer_r (F.Identity a) u v has = (has.0, (sets a u).0 has.1)
  layer_r (F.Product a b) u v has = ((sets a u).0 has.0, (sets b v).0 has.1)
  layer_r (F.RelTerm::Union r s) u v (inl has) = inl ((relations r u v).0 has)
  layer_r (F.RelTerm::Union r s) u v (inr has) = inr ((relations s u v).0 has)
  layer_r (F.RelTerm::Concat r s) u v has = record {
    front_in = has.front_in;
    rest_in = has.rest_in;
    front_out = has.front_out;
    rest_out = has.rest_out;
    split_in = has.split_in;
    split_out = has.split_out;
    in_front = (relations r has.front_in has.front_out).0 has.in_front;
    in_rest = (relations s has.rest_in has.rest_out).0 has.in_rest;
  }
  layer_r (F.RelTerm::Star r) u v has = record {
    pieces_in = has.pieces_in;
    pieces_out = has.pieces_out;
    joined_in = has.joined_in;
    joined_out = has.joined_out;
    each = zip_within (relation r) (others r) (relations r) has.pieces_in has.pieces_out has.each;
  }
  layer_r (F.Compose r s) u v has = record { middle = has.middle; first = (relations r u has.middle).0 has.first; second = (relations s has.middle v).0 has.second }

-- ---- what a term has

turned : (X Y : WordSet) → SameWords X Y → SameWords Y X
turned X Y same w = ((same w).1, (same w).0)

module _ (classes : List SymbolSet) (symbols : ℕ) (p q p' q' : WordSet) (pre : SameWords p p') (post : SameWords q q') where
  abbrev m : Setting
  m = reads classes symbols p q

  abbrev n : Setting
  n = reads classes symbols p' q'

  abbrev Same : PathTerm → Type 0
  Same x = SameWords (In m x) (In n x)

  abbrev SameR : RelTerm → Type 0
  SameR r = SamePairs (InR m r) (InR n r)

  abbrev Term : Type 0
  Term = (x : PathTerm) × Same x

  abbrev Related : Type 0
  Related = (r : RelTerm) × SameR r

  both : (y : F.PathTerm-F Term Related) → Same (roll-PathTerm (map-PathTerm Term Related PathTerm RelTerm (λ e. e.0) (λ e. e.0) y))
  both y w =
      let here = opened m Term Related (λ e. e.0) (λ e. e.0) y in
      let there = opened n Term Related (λ e. e.0) (λ e. e.0) y in (
        λ has. subst (λ (X : WordSet). X w) (sym there) (layer classes symbols p q p' q' pre post Term Related (λ e. In m e.0) (λ e. In n e.0) (λ e. InR m e.0) (λ e. InR n e.0)
            (λ e. e.1) (λ e. e.1) y w (subst (λ (X : WordSet). X w) here has)),
        λ has. subst (λ (X : WordSet). X w) (sym here) (layer classes symbols p' q' p q (turned p p' pre) (turned q q' post) Term Related (λ e. In n e.0) (λ e. In m e.0) (λ e. InR n e.0) (λ e. InR m e.0)
            (λ e. turned (In m e.0) (In n e.0) e.1) (λ e u v. ((e.1 u v).1, (e.1 u v).0)) y w (subst (λ (X : WordSet). X w) there has)),
      )

  both_r : (y : F.RelTerm-F Term Related) → SameR (roll-RelTerm (map-RelTerm Term Related PathTerm RelTerm (λ e. e.0) (λ e. e.0) y))
  both_r y u v =
      let here = opened_r m Term Related (λ e. e.0) (λ e. e.0) y in
      let there = opened_r n Term Related (λ e. e.0) (λ e. e.0) y in (
        λ has. subst (λ (R : Relation). R u v) (sym there) (layer_r classes symbols p q p' q' pre post Term Related (λ e. In m e.0) (λ e. In n e.0) (λ e. InR m e.0) (λ e. InR n e.0)
            (λ e. e.1) (λ e. e.1) y u v (subst (λ (R : Relation). R u v) here has)),
        λ has. subst (λ (R : Relation). R u v) (sym here) (layer_r classes symbols p' q' p q (turned p p' pre) (turned q q' post) Term Related (λ e. In n e.0) (λ e. In m e.0) (λ e. InR n e.0) (λ e. InR m e.0)
            (λ e. turned (In m e.0) (In n e.0) e.1) (λ e a b. ((e.1 a b).1, (e.1 a b).0)) y u v (subst (λ (R : Relation). R u v) there has)),
      )

  pub same_words : (x : PathTerm) → Same x
  same_words =
      ind-PathTerm Same SameR
      (λ x y is. subst (λ z. Same (roll-PathTerm z)) is (both y))
      (λ x y is. subst (λ z. SameR (roll-RelTerm z)) is (both_r y))
