-- Relations between words that are told piece by piece.
use Rattle.std.proofs.Common.{ℕ, ◌↔◌, List, [], ◌∷◌}
use Rattle.std.specs.List.{AllZip}
use Rattle.rela_rir.specs.Words.{Relation, PairConcatenation, PairStar}
use Rattle.rela_trans.specs.Relations.{PairJoins, PairRepeats}

-- the two relations have the same pairs
abbrev pub Same : Relation → Relation → Type 0
Same R S = (u v : List ℕ) → R u v ↔ S u v

pub same_as : (R S T : Relation) → Same R S → Same S T → Same R T
same_as R S T one two u v = (λ h. (two u v).0 ((one u v).0 h), λ h. (one u v).1 ((two u v).1 h))

pub pairs_joined : (A B R S : Relation) → Same A R → Same B S → Same (PairJoins A B) (PairConcatenation R S)
pairs_joined A B R S a b u v = (
  λ j. record {
    front_in = j.front_in;
    rest_in = j.rest_in;
    front_out = j.front_out;
    rest_out = j.rest_out;
    split_in = j.split_in;
    split_out = j.split_out;
    in_front = (a j.front_in j.front_out).0 j.in_front;
    in_rest = (b j.rest_in j.rest_out).0 j.in_rest;
  },
  λ j. record {
    front_in = j.front_in;
    rest_in = j.rest_in;
    front_out = j.front_out;
    rest_out = j.rest_out;
    split_in = j.split_in;
    split_out = j.split_out;
    in_front = (a j.front_in j.front_out).1 j.in_front;
    in_rest = (b j.rest_in j.rest_out).1 j.in_rest;
  },
)

all_pairs : (A R : Relation) → ((u v : List ℕ) → A u v → R u v) → (xs ys : List (List ℕ)) → AllZip A xs ys → AllZip R xs ys
all_pairs A R on [] [] each = tt
all_pairs A R on [] (y ∷ ys) each = absurd each
all_pairs A R on (x ∷ xs) [] each = absurd each
all_pairs A R on (x ∷ xs) (y ∷ ys) each = (on x y each.0, all_pairs A R on xs ys each.1)

pub pairs_repeated : (A R : Relation) → Same A R → Same (PairRepeats A) (PairStar R)
pairs_repeated A R a u v = (
  λ j. record {
    pieces_in = j.pieces_in;
    pieces_out = j.pieces_out;
    joined_in = j.joined_in;
    joined_out = j.joined_out;
    each = all_pairs A R (λ x y. (a x y).0) j.pieces_in j.pieces_out j.each;
  },
  λ j. record {
    pieces_in = j.pieces_in;
    pieces_out = j.pieces_out;
    joined_in = j.joined_in;
    joined_out = j.joined_out;
    each = all_pairs R A (λ x y. (a x y).1) j.pieces_in j.pieces_out j.each;
  },
)
