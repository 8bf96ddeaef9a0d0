-- How the words, the places and what tells places apart are carried over from one scene to another by each
-- form of path term, where they are at its parts.
use Rattle.std.proofs.Common.{◌≡◌, ℕ, ◌⊎◌, inl, inr, List, [], ◌∷◌, subst}
use Rattle.std.specs.Prelude.{slice_get, Some}
use Rattle.rela_rir.specs.Words.{WordSet, Relation, Concatenation, Star, ImageOf}
use Rattle.rela_rir.specs.Meaning.{Setting, IsInClass, HasSymbol, IsPathWord}
use Rattle.rela_rir.specs.Places.{Place, Start, End, Left, Right, Inner, Both, Seen, Node, Arrivals, Places, PairPlaces, Tells, JustOne, LetterPlaces, UnionPlaces, ConcatPlaces, StarPlaces, MeetPlaces, ComplementPlaces, PathSetPlaces, ImagePlaces, PartsApart, SeenApart, NoParts}
use Rattle.rela_rir.specs.Fixed.{Alike}
use Rattle.rela_rir.specs.Agreement.{SameWords, SameArrivals}
use Rattle.rela_rir.specs.declared.set.SymbolSet.{SymbolSet}
use Rattle.rela_rir.proofs.Inclusions as within
use Rattle.rela_rir.proofs.Inclusions.{Within, WithinR}

-- each word of X is in Y, each word that reaches a place in x reaches it in y, and what is apart by a is by b
pub record Carried (X Y : WordSet) (x y : Places) (a b : Tells) : Type 0 where
  pub words : Within X Y
  pub places : (p : Place) → Within (x p) (y p)
  pub apart : (p q : Place) → a p q → b p q

-- likewise of pairs
pub record CarriedR (R S : Relation) (r s : PairPlaces) (a b : Tells) : Type 0 where
  pub pairs : WithinR R S
  pub places : (p : Place) → WithinR (r p) (s p)
  pub apart : (p q : Place) → a p q → b p q

either : {A B C D : Type 0} → (A → C) → (B → D) → A ⊎ B → C ⊎ D
either f g (inl a) = inl (f a)
either f g (inr b) = inr (g b)

pub parts_apart : (a b c d : Tells) → ((p q : Place) → a p q → b p q) → ((p q : Place) → c p q → d p q) →
    (p q : Place) → PartsApart a c p q → PartsApart b d p q
parts_apart a b c d f g (Left p) (Left q) told = f p q told
parts_apart a b c d f g (Right p) (Right q) told = g p q told
parts_apart a b c d f g (Inner p) (Inner q) told = f p q told
parts_apart a b c d f g (Both p p') (Both q q') told = either (f p q) (g p' q') told
parts_apart a b c d f g _ _ told = told

pub no_parts : (p q : Place) → NoParts p q → NoParts p q
no_parts p q never = never

pub same : (X : WordSet) (x : Places) (a : Tells) → Carried X X x x a a
same X x a = record { words = λ w has. has; places = λ p w at. at; apart = λ p q told. told }

pub letters : (member other : ℕ → Type 0) → ((s : ℕ) → member s → other s) →
    Carried (λ w. (s : ℕ) × (w ≡ s ∷ []) × member s) (λ w. (s : ℕ) × (w ≡ s ∷ []) × other s) (LetterPlaces member) (LetterPlaces other) (PartsApart NoParts NoParts) (PartsApart NoParts NoParts)
letters member other f = record { words = λ w has. (has.0, has.1, f has.0 has.2); places = places; apart = λ p q told. told } where
  places : (p : Place) → Within (LetterPlaces member p) (LetterPlaces other p)
  places Start w at = at
  places End w at = (at.0, at.1, f at.0 at.2)
  places _ w at = at

-- an entry of the class table has the same symbols
pub entry : (m n : Setting) → Alike m n → (k s : ℕ) → IsInClass m k s → IsInClass n k s
entry m n alike k s has = (
  has.0,
  subst (λ (table : List SymbolSet). slice_get table k ≡ Some has.0) alike.classes has.1,
  subst (λ (many : ℕ). HasSymbol many has.0 s) alike.path_symbols has.2,
)

module _ {X X' Y Y' : WordSet} {x x' y y' : Places} {a a' b b' : Tells} (f : Carried X X' x x' a a') (g : Carried Y Y' y y' b b') where
  pub union : Carried (λ w. X w ⊎ Y w) (λ w. X' w ⊎ Y' w) (UnionPlaces x y) (UnionPlaces x' y') (PartsApart a b) (PartsApart a' b')
  union = record { words = within.union X X' Y Y' f.words g.words; places = places; apart = parts_apart a a' b b' f.apart g.apart } where
    places : (p : Place) → Within (UnionPlaces x y p) (UnionPlaces x' y' p)
    places (Left p) w at = f.places p w at
    places (Right p) w at = g.places p w at
    places _ w at = at

  pub joined : Carried (Concatenation X Y) (Concatenation X' Y') (ConcatPlaces X x y) (ConcatPlaces X' x' y') (PartsApart a b) (PartsApart a' b')
  joined = record { words = within.joined X X' Y Y' f.words g.words; places = places; apart = parts_apart a a' b b' f.apart g.apart } where
    places : (p : Place) → Within (ConcatPlaces X x y p) (ConcatPlaces X' x' y' p)
    places (Left p) w at = f.places p w at
    places (Right p) w at = within.joined X X' (y p) (y' p) f.words (g.places p) w at
    places _ w at = at

  pub meet : Carried (λ w. X w × Y w) (λ w. X' w × Y' w) (MeetPlaces x y) (MeetPlaces x' y') (PartsApart a b) (PartsApart a' b')
  meet = record { words = within.meet X X' Y Y' f.words g.words; places = places; apart = parts_apart a a' b b' f.apart g.apart } where
    places : (p : Place) → Within (MeetPlaces x y p) (MeetPlaces x' y' p)
    places (Both p q) w at = (f.places p w at.0, g.places q w at.1)
    places _ w at = at

module _ {X X' : WordSet} {x x' : Places} {a a' : Tells} (f : Carried X X' x x' a a') where
  pub star : Carried (Star X) (Star X') (StarPlaces X x) (StarPlaces X' x') (PartsApart a NoParts) (PartsApart a' NoParts)
  star = record { words = within.star X X' f.words; places = places; apart = parts_apart a a' NoParts NoParts f.apart no_parts } where
    places : (p : Place) → Within (StarPlaces X x p) (StarPlaces X' x' p)
    places (Inner p) w at = within.joined (Star X) (Star X') (x p) (x' p) (within.star X X' f.words) (f.places p) w at
    places _ w at = at

  -- what the part has in the second scene is carried over to the first as well
  pub complement : (many other : ℕ) → many ≡ other → Carried X' X x' x a' a →
      Carried (λ w. IsPathWord many w × (¬ X w)) (λ w. IsPathWord other w × (¬ X' w)) (ComplementPlaces many x) (ComplementPlaces other x') (SeenApart x) (SeenApart x')
  complement many other symbols back = record { words = λ w has. (path w has.0, λ bad. has.1 (back.words w bad)); places = places; apart = apart } where
    path : (w : List ℕ) → IsPathWord many w → IsPathWord other w
    path w is = subst (λ (k : ℕ). IsPathWord k w) symbols is

    places : (p : Place) → Within (ComplementPlaces many x p) (ComplementPlaces other x' p)
    places (Seen z) w at = (path z at.0, path w at.1, λ p. ((λ has. f.places p z ((at.2 p).0 (back.places p w has))), λ has. f.places p w ((at.2 p).1 (back.places p z has))))
    places _ w at = at

    just_one : (p : Place) (w z : List ℕ) → JustOne (x p w) (x p z) → JustOne (x' p w) (x' p z)
    just_one p w z (inl one) = inl (f.places p w one.0, λ bad. one.1 (back.places p z bad))
    just_one p w z (inr one) = inr ((λ bad. one.0 (back.places p w bad)), f.places p z one.1)

    apart : (p q : Place) → SeenApart x p q → SeenApart x' p q
    apart (Seen w) (Seen z) told = (told.0, just_one told.0 w z told.1)
    apart _ _ told = told

  pub image : {R R' : Relation} {r r' : PairPlaces} {b b' : Tells} → CarriedR R R' r r' b b' →
      Carried (ImageOf X R) (ImageOf X' R') (ImagePlaces x r) (ImagePlaces x' r') (PartsApart a b) (PartsApart a' b')
  image {R} {R'} {r} {r'} {b} {b'} g = record { words = within.image X X' R R' f.words g.pairs; places = places; apart = parts_apart a a' b b' f.apart g.apart } where
    places : (p : Place) → Within (ImagePlaces x r p) (ImagePlaces x' r' p)
    places (Both p q) w at = within.image (x p) (x' p) (r q) (r' q) (f.places p) (g.places q) w at
    places _ w at = at

pub paths : (X Y : WordSet) (a b : Arrivals) → SameWords X Y → SameArrivals a b →
    Carried X Y (PathSetPlaces a) (PathSetPlaces b) (PartsApart NoParts NoParts) (PartsApart NoParts NoParts)
paths X Y a b words arrivals = record { words = λ w. (words w).0; places = places; apart = λ p q told. told } where
  places : (p : Place) → Within (PathSetPlaces a p) (PathSetPlaces b p)
  places (Node n) w at = (arrivals.at_node n w).0 at
  places End w at = (arrivals.at_end w).0 at
  places _ w at = at
