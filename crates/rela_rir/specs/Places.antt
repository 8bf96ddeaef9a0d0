-- The places where a reader of a term can stand, and the words and pairs of words that reach them.
use Rattle.std.specs.Prelude.{◌≡◌, ◌≢◌, ℕ, ◌⊎◌, ◌↔◌, Bool, true, false, List, [], ◌∷◌}
use Rattle.rela_rir.specs.Words.{WordSet, Relation, Concatenation, Star, ImageOf, PairConcatenation, PairStar, Composition}
use Rattle.rela_rir.specs.Meaning.{Setting, In, InR, IsInClass, IsPathWord}
use Rattle.rela_rir.specs.declared.term.PathTerm.{PathTerm}
use Rattle.rela_rir.specs.declared.term.RelTerm.{RelTerm}
use Rattle.rela_rir.specs.declared.term.PathTerm.TheOpen.{PathTerm-F, None, Empty, Class, One, PathTerm::Union, PathTerm::Concat, PathTerm::Star, Meet, Complement, Pre, Post, Image, RelTerm-F, Identity, Product, RelTerm::Union, RelTerm::Concat, RelTerm::Star, Compose}
use Rattle.rela_rir.specs.declared.term.PathTerm.TheFolds.{rec-PathTerm, rec-RelTerm}

pub data Place : Type 0 where
  Start : Place
  End : Place
  Begin : Place
  Left : Place → Place
  Right : Place → Place
  Inner : Place → Place
  Both : Place → Place → Place
  Seen : List ℕ → Place
  Node : ℕ → Place

-- what reaches the places of a path set: a node of its graph, by the words of the walks that end there,
-- and its end, by the words that it gives with an ending `drop` or `loop`
pub record Arrivals : Type 1 where
  pub at_node : ℕ → List ℕ → Type 0
  pub at_end : List ℕ → Type 0

-- a setting, the number of markers, which are numbered after the path symbols, and the two path sets' places
pub record Scene : Type 1 where
  pub setting : Setting
  pub markers : ℕ
  pub pre : Arrivals
  pub post : Arrivals

-- for each place, the words that reach it
abbrev pub Places : Type 1
Places = Place → WordSet

-- for each place, the pairs that reach it
abbrev pub PairPlaces : Type 1
PairPlaces = Place → Relation

-- each place is reached by both words or by neither
abbrev pub Agree : Places → List ℕ → List ℕ → Type 0
Agree x w z = (p : Place) → x p w ↔ x p z

-- a set of words of one symbol each
abbrev pub LetterPlaces : (ℕ → Type 0) → Places
LetterPlaces member Start w = w ≡ []
LetterPlaces member End w = (s : ℕ) × (w ≡ s ∷ []) × member s
LetterPlaces member _ w = ⊥

abbrev pub EmptyPlaces : Places
EmptyPlaces Start w = w ≡ []
EmptyPlaces _ w = ⊥

abbrev pub UnionPlaces : Places → Places → Places
UnionPlaces x y Begin w = w ≡ []
UnionPlaces x y (Left p) w = x p w
UnionPlaces x y (Right p) w = y p w
UnionPlaces x y _ w = ⊥

-- the words of the first part, and the places of both
abbrev pub ConcatPlaces : WordSet → Places → Places → Places
ConcatPlaces X x y (Left p) w = x p w
ConcatPlaces X x y (Right p) w = Concatenation X (y p) w
ConcatPlaces X x y _ w = ⊥

abbrev pub StarPlaces : WordSet → Places → Places
StarPlaces X x Begin w = w ≡ []
StarPlaces X x (Inner p) w = Concatenation (Star X) (x p) w
StarPlaces X x _ w = ⊥

abbrev pub MeetPlaces : Places → Places → Places
MeetPlaces x y (Both p q) w = x p w × y q w
MeetPlaces x y _ w = ⊥

-- a word of path symbols is known by the places that it reaches in the part
abbrev pub ComplementPlaces : ℕ → Places → Places
ComplementPlaces path_symbols x (Seen z) w = IsPathWord path_symbols z
    × IsPathWord path_symbols w × Agree x w z
ComplementPlaces path_symbols x _ w = ⊥

abbrev pub PathSetPlaces : Arrivals → Places
PathSetPlaces arrivals Begin w = w ≡ []
PathSetPlaces arrivals (Node n) w = arrivals.at_node n w
PathSetPlaces arrivals End w = arrivals.at_end w
PathSetPlaces arrivals _ w = ⊥

abbrev pub ImagePlaces : Places → PairPlaces → Places
ImagePlaces x r (Both p q) v = ImageOf (x p) (r q) v
ImagePlaces x r _ v = ⊥

abbrev pub IdentityPlaces : Places → PairPlaces
IdentityPlaces x p u v = (u ≡ v) × x p u

-- the words of the first part, and the places of both
abbrev pub ProductPlaces : WordSet → Places → Places → PairPlaces
ProductPlaces X x y (Left p) u v = x p u × (v ≡ [])
ProductPlaces X x y (Right q) u v = X u × y q v
ProductPlaces X x y _ u v = ⊥

abbrev pub PairUnionPlaces : PairPlaces → PairPlaces → PairPlaces
PairUnionPlaces r s Begin u v = (u ≡ []) × (v ≡ [])
PairUnionPlaces r s (Left p) u v = r p u v
PairUnionPlaces r s (Right p) u v = s p u v
PairUnionPlaces r s _ u v = ⊥

abbrev pub PairConcatPlaces : Relation → PairPlaces → PairPlaces → PairPlaces
PairConcatPlaces R r s (Left p) u v = r p u v
PairConcatPlaces R r s (Right p) u v = PairConcatenation R (s p) u v
PairConcatPlaces R r s _ u v = ⊥

abbrev pub PairStarPlaces : Relation → PairPlaces → PairPlaces
PairStarPlaces R r Begin u v = (u ≡ []) × (v ≡ [])
PairStarPlaces R r (Inner p) u v = PairConcatenation (PairStar R) (r p) u v
PairStarPlaces R r _ u v = ⊥

abbrev pub ComposePlaces : PairPlaces → PairPlaces → PairPlaces
ComposePlaces r s (Both p q) u v = Composition (r p) (s q) u v
ComposePlaces r s _ u v = ⊥

-- One layer of a term, where it is given which terms its parts are, and their places.
module _ {X Y : Type 0} (m : Scene) (term : X → PathTerm) (relation : Y → RelTerm) (at : X → Places)
    (pairs : Y → PairPlaces) where
  abbrev pub LayerAt : PathTerm-F X Y → Places
  LayerAt None = EmptyPlaces
  LayerAt Empty = EmptyPlaces
  LayerAt (Class k) = LetterPlaces (IsInClass m.setting k)
  LayerAt (One s) = LetterPlaces (λ t. t ≡ s)
  LayerAt (PathTerm::Union x y) = UnionPlaces (at x) (at y)
  LayerAt (PathTerm::Concat x y) = ConcatPlaces (In m.setting (term x)) (at x) (at y)
  LayerAt (PathTerm::Star x) = StarPlaces (In m.setting (term x)) (at x)
  LayerAt (Meet x y) = MeetPlaces (at x) (at y)
  LayerAt (Complement x) = ComplementPlaces m.setting.path_symbols (at x)
  LayerAt Pre = PathSetPlaces m.pre
  LayerAt Post = PathSetPlaces m.post
  LayerAt (Image x r) = ImagePlaces (at x) (pairs r)

  abbrev pub LayerAtR : RelTerm-F X Y → PairPlaces
  LayerAtR (Identity x) = IdentityPlaces (at x)
  LayerAtR (Product x y) = ProductPlaces (In m.setting (term x)) (at x) (at y)
  LayerAtR (RelTerm::Union r s) = PairUnionPlaces (pairs r) (pairs s)
  LayerAtR (RelTerm::Concat r s) = PairConcatPlaces (InR m.setting (relation r)) (pairs r) (pairs s)
  LayerAtR (RelTerm::Star r) = PairStarPlaces (InR m.setting (relation r)) (pairs r)
  LayerAtR (Compose r s) = ComposePlaces (pairs r) (pairs s)

-- The word reaches the place of the path term.
abbrev pub At : Scene → PathTerm → Places
At m =
    rec-PathTerm Places PairPlaces
    (λ X Y term relation at pairs layer. LayerAt m term relation at pairs layer)
    (λ X Y term relation at pairs layer. LayerAtR m term relation at pairs layer)

-- The pair of words reaches the place of the relation term.
abbrev pub AtR : Scene → RelTerm → PairPlaces
AtR m =
    rec-RelTerm Places PairPlaces
    (λ X Y term relation at pairs layer. LayerAt m term relation at pairs layer)
    (λ X Y term relation at pairs layer. LayerAtR m term relation at pairs layer)

-- the two places have the same name
abbrev pub same_name : Place → Place → Bool
same_name Start Start = true
same_name End End = true
same_name Begin Begin = true
same_name (Left p) (Left q) = true
same_name (Right p) (Right q) = true
same_name (Inner p) (Inner q) = true
same_name (Both p p') (Both q q') = true
same_name (Seen w) (Seen z) = true
same_name (Node m) (Node n) = true
same_name _ _ = false

-- just one of the two holds
abbrev pub JustOne : Type 0 → Type 0 → Type 0
JustOne P Q = (P × (¬ Q)) ⊎ ((¬ P) × Q)

-- what tells two places of one term apart
abbrev pub Tells : Type 1
Tells = Place → Place → Type 0

-- Different names, or the same name and a part that is apart from the same part. The parts of left places
-- and inner places are places of the first part of a term, those of right places of its second.
abbrev pub PartsApart : Tells → Tells → Tells
PartsApart first second (Left p) (Left q) = first p q
PartsApart first second (Right p) (Right q) = second p q
PartsApart first second (Inner p) (Inner q) = first p q
PartsApart first second (Both p p') (Both q q') = first p q ⊎ second p' q'
PartsApart first second (Node m) (Node n) = m ≢ n
PartsApart first second p q = same_name p q ≡ false

-- two words are told apart by a place that just one of them reaches
abbrev pub SeenApart : Places → Tells
SeenApart x (Seen w) (Seen z) = (p : Place) × JustOne (x p w) (x p z)
SeenApart x p q = same_name p q ≡ false

abbrev pub NoParts : Tells
NoParts p q = ⊥

-- One layer of a term, where it is given which terms its parts are, and which of their places are apart.
module _ {X Y : Type 0} (m : Scene) (term : X → PathTerm) (apart : X → Tells)
    (apart_r : Y → Tells) where
  abbrev pub LayerApart : PathTerm-F X Y → Tells
  LayerApart None = PartsApart NoParts NoParts
  LayerApart Empty = PartsApart NoParts NoParts
  LayerApart (Class k) = PartsApart NoParts NoParts
  LayerApart (One s) = PartsApart NoParts NoParts
  LayerApart (PathTerm::Union x y) = PartsApart (apart x) (apart y)
  LayerApart (PathTerm::Concat x y) = PartsApart (apart x) (apart y)
  LayerApart (PathTerm::Star x) = PartsApart (apart x) NoParts
  LayerApart (Meet x y) = PartsApart (apart x) (apart y)
  LayerApart (Complement x) = SeenApart (At m (term x))
  LayerApart Pre = PartsApart NoParts NoParts
  LayerApart Post = PartsApart NoParts NoParts
  LayerApart (Image x r) = PartsApart (apart x) (apart_r r)

  abbrev pub LayerApartR : RelTerm-F X Y → Tells
  LayerApartR (Identity x) = apart x
  LayerApartR (Product x y) = PartsApart (apart x) (apart y)
  LayerApartR (RelTerm::Union r s) = PartsApart (apart_r r) (apart_r s)
  LayerApartR (RelTerm::Concat r s) = PartsApart (apart_r r) (apart_r s)
  LayerApartR (RelTerm::Star r) = PartsApart (apart_r r) NoParts
  LayerApartR (Compose r s) = PartsApart (apart_r r) (apart_r s)

-- The two places of the path term are apart.
abbrev pub Apart : Scene → PathTerm → Tells
Apart m =
    rec-PathTerm Tells Tells
    (λ X Y term _ apart apart_r layer. LayerApart m term apart apart_r layer)
    (λ X Y term _ apart apart_r layer. LayerApartR m term apart apart_r layer)

-- The two places of the relation term are apart.
abbrev pub ApartR : Scene → RelTerm → Tells
ApartR m =
    rec-RelTerm Tells Tells
    (λ X Y term _ apart apart_r layer. LayerApart m term apart apart_r layer)
    (λ X Y term _ apart apart_r layer. LayerApartR m term apart apart_r layer)
