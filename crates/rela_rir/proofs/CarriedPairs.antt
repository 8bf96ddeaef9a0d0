-- The same for each form of relation term.
use Rattle.std.proofs.Common.{◌≡◌, ◌⊎◌}
use Rattle.rela_rir.specs.Words.{WordSet, Relation, PairConcatenation, PairStar, Composition}
use Rattle.rela_rir.specs.Places.{Place, Left, Right, Inner, Both, Places, PairPlaces, Tells, IdentityPlaces, ProductPlaces, PairUnionPlaces, PairConcatPlaces, PairStarPlaces, ComposePlaces, PartsApart, NoParts}
use Rattle.rela_rir.proofs.Inclusions as within
use Rattle.rela_rir.proofs.Inclusions.{Within, WithinR}
use Rattle.rela_rir.proofs.CarriedSets.{Carried, CarriedR, parts_apart, no_parts}

module _ {X X' : WordSet} {x x' : Places} {a a' : Tells} (f : Carried X X' x x' a a') where
  pub identity : CarriedR (λ u v. (u ≡ v) × X u) (λ u v. (u ≡ v) × X' u) (IdentityPlaces x) (IdentityPlaces x') a a'
  identity = record { pairs = within.identity X X' f.words; places = λ p. within.identity (x p) (x' p) (f.places p); apart = f.apart }

  pub product : {Y Y' : WordSet} {y y' : Places} {b b' : Tells} → Carried Y Y' y y' b b' →
      CarriedR (λ u v. X u × Y v) (λ u v. X' u × Y' v) (ProductPlaces X x y) (ProductPlaces X' x' y') (PartsApart a b) (PartsApart a' b')
  product {Y} {Y'} {y} {y'} {b} {b'} g = record { pairs = within.product X X' Y Y' f.words g.words; places = places; apart = parts_apart a a' b b' f.apart g.apart } where
    places : (p : Place) → WithinR (ProductPlaces X x y p) (ProductPlaces X' x' y' p)
    places (Left p) u v at = (f.places p u at.0, at.1)
    places (Right p) u v at = (f.words u at.0, g.places p v at.1)
    places _ u v at = at

module _ {R R' S S' : Relation} {r r' s s' : PairPlaces} {a a' b b' : Tells} (f : CarriedR R R' r r' a a') (g : CarriedR S S' s s' b b') where
  pub union : CarriedR (λ u v. R u v ⊎ S u v) (λ u v. R' u v ⊎ S' u v) (PairUnionPlaces r s) (PairUnionPlaces r' s') (PartsApart a b) (PartsApart a' b')
  union = record { pairs = within.union_r R R' S S' f.pairs g.pairs; places = places; apart = parts_apart a a' b b' f.apart g.apart } where
    places : (p : Place) → WithinR (PairUnionPlaces r s p) (PairUnionPlaces r' s' p)
    places (Left p) u v at = f.places p u v at
    places (Right p) u v at = g.places p u v at
    places _ u v at = at

  pub joined : CarriedR (PairConcatenation R S) (PairConcatenation R' S') (PairConcatPlaces R r s) (PairConcatPlaces R' r' s') (PartsApart a b) (PartsApart a' b')
  joined = record { pairs = within.joined_r R R' S S' f.pairs g.pairs; places = places; apart = parts_apart a a' b b' f.apart g.apart } where
    places : (p : Place) → WithinR (PairConcatPlaces R r s p) (PairConcatPlaces R' r' s' p)
    places (Left p) u v at = f.places p u v at
    places (Right p) u v at = within.joined_r R R' (s p) (s' p) f.pairs (g.places p) u v at
    places _ u v at = at

  pub composed : CarriedR (Composition R S) (Composition R' S') (ComposePlaces r s) (ComposePlaces r' s') (PartsApart a b) (PartsApart a' b')
  composed = record { pairs = within.composed R R' S S' f.pairs g.pairs; places = places; apart = parts_apart a a' b b' f.apart g.apart } where
    places : (p : Place) → WithinR (ComposePlaces r s p) (ComposePlaces r' s' p)
    places (Both p q) u v at = within.composed (r p) (r' p) (s q) (s' q) (f.places p) (g.places q) u v at
    places _ u v at = at

pub star : {R R' : Relation} {r r' : PairPlaces} {a a' : Tells} → CarriedR R R' r r' a a' →
    CarriedR (PairStar R) (PairStar R') (PairStarPlaces R r) (PairStarPlaces R' r') (PartsApart a NoParts) (PartsApart a' NoParts)
star {R} {R'} {r} {r'} {a} {a'} f = record { pairs = within.star_r R R' f.pairs; places = places; apart = parts_apart a a' NoParts NoParts f.apart no_parts } where
  places : (p : Place) → WithinR (PairStarPlaces R r p) (PairStarPlaces R' r' p)
  places (Inner p) u v at = within.joined_r (PairStar R) (PairStar R') (r p) (r' p) (within.star_r R R' f.pairs) (f.places p) u v at
  places _ u v at = at
