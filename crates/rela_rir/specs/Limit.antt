-- When the number of places licenses an answer that is left open, and when it forces one.
use Rattle.std.specs.Prelude.{◌≡◌, ℕ, ◌+◌, ◌<◌, ◌⊎◌, Option, List, ◌++◌, length, All, AllPairs}
use Rattle.std.specs.Option.{ForSome}
use Rattle.rela_names.specs.Shortlex.{IsBefore}
use Rattle.rela_rir.specs.Meaning.{In, IsPathWord}
use Rattle.rela_rir.specs.Places.{Place, Scene, At, AtR, Apart, ApartR, JustOne}
use Rattle.rela_rir.specs.declared.term.PathTerm.{PathTerm}
use Rattle.rela_rir.specs.declared.term.RelTerm.{RelTerm}
use Rattle.rela_rir.specs.declared.term.PathTerm.TheOpen.{PathTerm-F, PathTerm::Union, PathTerm::Concat, PathTerm::Star, Meet, Complement, Image, RelTerm-F, Identity, Product, RelTerm::Union, RelTerm::Concat, RelTerm::Star, Compose}
use Rattle.rela_rir.specs.declared.term.PathTerm.TheViews.{out-PathTerm, out-RelTerm, roll-PathTerm, roll-RelTerm}
use Rattle.rela_rir.specs.declared.term.PathTerm.TheFolds.{rec-PathTerm, rec-RelTerm, map-PathTerm, map-RelTerm}

-- a word of path symbols and markers
abbrev pub IsCheckWord : Scene → List ℕ → Type 0
IsCheckWord m w = All (λ s. s < m.setting.path_symbols + m.markers) w

-- some word reaches the place of the path term
abbrev pub IsReached : Scene → PathTerm → Place → Type 0
IsReached m t p = (w : List ℕ) × IsCheckWord m w × At m t p w

-- some pair of words reaches the place of the relation term
abbrev pub IsReachedR : Scene → RelTerm → Place → Type 0
IsReachedR m r p = (u v : List ℕ) × IsCheckWord m u × IsCheckWord m v × AtR m r p u v

-- k places of the path term, of which each two are apart, and each is reached
pub record Reached (m : Scene) (t : PathTerm) (k : ℕ) : Type 0 where
  pub places : List Place
  pub many : length places ≡ k
  pub apart : AllPairs (Apart m t) places
  pub reached : All (IsReached m t) places

-- k places of the relation term, of which each two are apart, and each is reached
pub record ReachedR (m : Scene) (r : RelTerm) (k : ℕ) : Type 0 where
  pub places : List Place
  pub many : length places ≡ k
  pub apart : AllPairs (ApartR m r) places
  pub reached : All (IsReachedR m r) places

-- some place of one of the two terms is reached by just one of the two words
abbrev pub ToldByPlace : Scene → PathTerm → PathTerm → List ℕ → List ℕ → Type 0
ToldByPlace m x y w z = ((p : Place) × JustOne (At m x p w) (At m x p z))
    ⊎ ((p : Place) × JustOne (At m y p w) (At m y p z))

-- k words, of which each two are told apart by a place of one of the two terms; where a last word is given,
-- none of them comes after it in shortlex order
pub record ReachedPair (m : Scene) (last : Option (List ℕ)) (x y : PathTerm) (k : ℕ) : Type 0 where
  pub words : List (List ℕ)
  pub many : length words ≡ k
  pub symbols : All (IsCheckWord m) words
  pub early : ForSome last (λ end. All (λ w. ¬ IsBefore end w) words)
  pub told : AllPairs (ToldByPlace m x y) words

-- Some part of one layer of a term has it, where it is given which parts do.
module _ {X Y : Type 0} (part : X → Type 0) (part_r : Y → Type 0) where
  abbrev pub LayerSome : PathTerm-F X Y → Type 0
  LayerSome (PathTerm::Union x y) = part x ⊎ part y
  LayerSome (PathTerm::Concat x y) = part x ⊎ part y
  LayerSome (PathTerm::Star x) = part x
  LayerSome (Meet x y) = part x ⊎ part y
  LayerSome (Complement x) = part x
  LayerSome (Image x r) = part x ⊎ part_r r
  LayerSome _ = ⊥

  abbrev pub LayerSomeR : RelTerm-F X Y → Type 0
  LayerSomeR (Identity x) = part x
  LayerSomeR (Product x y) = part x ⊎ part y
  LayerSomeR (RelTerm::Union r s) = part_r r ⊎ part_r s
  LayerSomeR (RelTerm::Concat r s) = part_r r ⊎ part_r s
  LayerSomeR (RelTerm::Star r) = part_r r
  LayerSomeR (Compose r s) = part_r r ⊎ part_r s

-- One layer of a term has it, or some part of that layer, where it is given which terms the parts are.
module _ {X Y : Type 0} (term : X → PathTerm) (relation : Y → RelTerm) (part : X → Type 0)
    (part_r : Y → Type 0) where
  abbrev pub LayerHas : (PathTerm → Type 0) → PathTerm-F X Y → Type 0
  LayerHas P layer = P (roll-PathTerm (map-PathTerm X Y PathTerm RelTerm term relation layer))
      ⊎ LayerSome part part_r layer

  abbrev pub LayerHasR : (RelTerm → Type 0) → RelTerm-F X Y → Type 0
  LayerHasR R layer = R (roll-RelTerm (map-RelTerm X Y PathTerm RelTerm term relation layer))
      ⊎ LayerSomeR part part_r layer

-- The path term has P, or some path term at any depth in it has P, or some relation term there has R.
abbrev pub SomeSubterm : (PathTerm → Type 0) → (RelTerm → Type 0) → PathTerm → Type 0
SomeSubterm P R =
    rec-PathTerm (Type 0) (Type 0)
    (λ X Y term relation part part_r layer. LayerHas term relation part part_r P layer)
    (λ X Y term relation part part_r layer. LayerHasR term relation part part_r R layer)

-- The relation term has R, or some relation term at any depth in it has R, or some path term there has P.
abbrev pub SomeSubtermR : (PathTerm → Type 0) → (RelTerm → Type 0) → RelTerm → Type 0
SomeSubtermR P R =
    rec-RelTerm (Type 0) (Type 0)
    (λ X Y term relation part part_r layer. LayerHas term relation part part_r P layer)
    (λ X Y term relation part part_r layer. LayerHasR term relation part part_r R layer)

-- the path terms whose places are counted against a limit: meets, complements and images
abbrev pub LayerIsCounted : {X Y : Type 0} → PathTerm-F X Y → Type 0
LayerIsCounted (Meet x y) = Unit {0}
LayerIsCounted (Complement x) = Unit {0}
LayerIsCounted (Image x r) = Unit {0}
LayerIsCounted _ = ⊥

-- the relation terms whose places are counted against a limit: compositions
abbrev pub LayerIsCountedR : {X Y : Type 0} → RelTerm-F X Y → Type 0
LayerIsCountedR (Compose r s) = Unit {0}
LayerIsCountedR _ = ⊥

-- some counted term in the path term has k places that are reached
abbrev pub ReachedInside : Scene → ℕ → PathTerm → Type 0
ReachedInside m k =
    SomeSubterm (λ t. LayerIsCounted (out-PathTerm t) × Reached m t k) (λ r.
    LayerIsCountedR (out-RelTerm r) × ReachedR m r k)

-- some counted term in the relation term has k places that are reached
abbrev pub ReachedInsideR : Scene → ℕ → RelTerm → Type 0
ReachedInsideR m k =
    SomeSubtermR (λ t. LayerIsCounted (out-PathTerm t) × Reached m t k) (λ r.
    LayerIsCountedR (out-RelTerm r) × ReachedR m r k)

-- two words can be continued by some word of path symbols so that just one of them comes to lie in the term
abbrev pub ToldByContinuing : Scene → PathTerm → List ℕ → List ℕ → Type 0
ToldByContinuing m x w w' =
    (z : List ℕ) × IsPathWord m.setting.path_symbols z
    × JustOne (In m.setting x (w ++ z)) (In m.setting x (w' ++ z))

-- k words of path symbols, of which each two are told apart by continuing them
pub record AreTold (m : Scene) (x : PathTerm) (k : ℕ) : Type 0 where
  pub words : List (List ℕ)
  pub many : length words ≡ k
  pub symbols : All (IsPathWord m.setting.path_symbols) words
  pub told : AllPairs (ToldByContinuing m x) words

-- the term is the complement of a part that tells k words
abbrev pub LayerIsForced : Scene → ℕ → PathTerm-F PathTerm RelTerm → Type 0
LayerIsForced m k (Complement x) = AreTold m x k
LayerIsForced m k _ = ⊥

-- some complement in the path term has a part that tells k words
abbrev pub ForcedInside : Scene → ℕ → PathTerm → Type 0
ForcedInside m k = SomeSubterm (λ t. LayerIsForced m k (out-PathTerm t)) (λ r. ⊥)

-- some complement in the relation term has a part that tells k words
abbrev pub ForcedInsideR : Scene → ℕ → RelTerm → Type 0
ForcedInsideR m k = SomeSubtermR (λ t. LayerIsForced m k (out-PathTerm t)) (λ r. ⊥)

-- The comparison of the two images may be left open under the limit: some counted term in them has more
-- reached places than the limit, or more words than the limit are told apart by the places of the images.
abbrev pub Licensed : Scene → Option (List ℕ) → PathTerm → PathTerm → ℕ → Type 0
Licensed m last before after limit =
    ReachedInside m (limit + 1) before ⊎ (ReachedInside m (limit + 1) after
    ⊎ ReachedPair m last before after (limit + 1))

-- It has to be left open: some complement in the images has a part that tells more words than the limit.
abbrev pub Forced : Scene → PathTerm → PathTerm → ℕ → Type 0
Forced m before after limit = ForcedInside m (limit + 1) before ⊎ ForcedInside m (limit + 1) after
