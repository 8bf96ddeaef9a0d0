-- Sets of words and relations between words, told by splitting words. A word is a list of symbol numbers.
use Rattle.std.specs.Prelude.{◌≡◌, ℕ, List, ◌++◌}
use Rattle.std.specs.List.{All, AllZip, concat}

abbrev pub WordSet : Type 1
WordSet = List ℕ → Type 0

abbrev pub Relation : Type 1
Relation = List ℕ → List ℕ → Type 0

-- a word of X, and then a word of Y
pub record Concatenation (X Y : List ℕ → Type 0) (w : List ℕ) : Type 0 where
  pub front : List ℕ
  pub rest : List ℕ
  pub split : w ≡ front ++ rest
  pub in_front : X front
  pub in_rest : Y rest

-- words of X one after another; none of them give the empty word
pub record Star (X : List ℕ → Type 0) (w : List ℕ) : Type 0 where
  pub pieces : List (List ℕ)
  pub joined : w ≡ concat pieces
  pub each : All X pieces

-- what R relates some word of X to
pub record ImageOf (X : List ℕ → Type 0) (R : List ℕ → List ℕ → Type 0) (v : List ℕ) : Type 0 where
  pub source : List ℕ
  pub in_set : X source
  pub related : R source v

-- a pair of R, and then a pair of S, on both sides
pub record PairConcatenation (R S : List ℕ → List ℕ → Type 0) (u v : List ℕ) : Type 0 where
  pub front_in : List ℕ
  pub rest_in : List ℕ
  pub front_out : List ℕ
  pub rest_out : List ℕ
  pub split_in : u ≡ front_in ++ rest_in
  pub split_out : v ≡ front_out ++ rest_out
  pub in_front : R front_in front_out
  pub in_rest : S rest_in rest_out

-- pairs of R one after another, on both sides; none of them give the pair of empty words
pub record PairStar (R : List ℕ → List ℕ → Type 0) (u v : List ℕ) : Type 0 where
  pub pieces_in : List (List ℕ)
  pub pieces_out : List (List ℕ)
  pub joined_in : u ≡ concat pieces_in
  pub joined_out : v ≡ concat pieces_out
  pub each : AllZip R pieces_in pieces_out

-- from u to some word by R, and from that word to v by S
pub record Composition (R S : List ℕ → List ℕ → Type 0) (u v : List ℕ) : Type 0 where
  pub middle : List ℕ
  pub first : R u middle
  pub second : S middle v
