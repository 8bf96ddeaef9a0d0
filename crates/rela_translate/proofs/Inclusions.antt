-- Each form of term keeps inclusion: from larger parts comes no smaller set.
use Rattle.std.proofs.Common.{◌≡◌, ℕ, ◌⊎◌, inl, inr, List}
use Rattle.std.proofs.lemmas.List.Elements.{All-weaker}
use Rattle.rela_rir.specs.Words.{WordSet, Relation, Concatenation, Star, ImageOf, PairConcatenation}

-- each word of the one set is in the other
abbrev pub Within : WordSet → WordSet → Type 0
Within X Y = (w : List ℕ) → X w → Y w

-- each pair of the one relation is in the other
abbrev pub WithinR : Relation → Relation → Type 0
WithinR R S = (u v : List ℕ) → R u v → S u v

pub union : (X X' Y Y' : WordSet) → Within X X' → Within Y Y' → Within (λ w. X w ⊎ Y w) (λ w. X' w ⊎ Y' w)
union X X' Y Y' f g w (inl x) = inl (f w x)
union X X' Y Y' f g w (inr y) = inr (g w y)

pub joined : (X X' Y Y' : WordSet) → Within X X' → Within Y Y' → Within (Concatenation X Y) (Concatenation X' Y')
joined X X' Y Y' f g w c = record { front = c.front; rest = c.rest; split = c.split; in_front = f c.front c.in_front; in_rest = g c.rest c.in_rest }

pub star : (X X' : WordSet) → Within X X' → Within (Star X) (Star X')
star X X' f w s = record { pieces = s.pieces; joined = s.joined; each = All-weaker X X' f s.pieces s.each }

pub meet : (X X' Y Y' : WordSet) → Within X X' → Within Y Y' → Within (λ w. X w × Y w) (λ w. X' w × Y' w)
meet X X' Y Y' f g w both = (f w both.0, g w both.1)

pub image : (X X' : WordSet) (R R' : Relation) → Within X X' → WithinR R R' → Within (ImageOf X R) (ImageOf X' R')
image X X' R R' f g v i = record { source = i.source; in_set = f i.source i.in_set; related = g i.source v i.related }

pub identity : (X X' : WordSet) → Within X X' → WithinR (λ u v. (u ≡ v) × X u) (λ u v. (u ≡ v) × X' u)
identity X X' f u v has = (has.0, f u has.1)

pub product : (X X' Y Y' : WordSet) → Within X X' → Within Y Y' → WithinR (λ u v. X u × Y v) (λ u v. X' u × Y' v)
product X X' Y Y' f g u v has = (f u has.0, g v has.1)

pub union_r : (R R' S S' : Relation) → WithinR R R' → WithinR S S' → WithinR (λ u v. R u v ⊎ S u v) (λ u v. R' u v ⊎ S' u v)
union_r R R' S S' f g u v (inl r) = inl (f u v r)
union_r R R' S S' f g u v (inr s) = inr (g u v s)

pub joined_r : (R R' S S' : Relation) → WithinR R R' → WithinR S S' → WithinR (PairConcatenation R S) (PairConcatenation R' S')
joined_r R R' S S' f g u v c = record {
  front_in = c.front_in;
  rest_in = c.rest_in;
  front_out = c.front_out;
  rest_out = c.rest_out;
  split_in = c.split_in;
  split_out = c.split_out;
  in_front = f c.front_in c.front_out c.in_front;
  in_rest = g c.rest_in c.rest_out c.in_rest;
}
