-- Relations between words made of others.
use Rattle.std.specs.Prelude.{◌≡◌, ℕ, List, ◌++◌}
use Rattle.std.specs.List.{AllZip, concat}

-- the pair is one of R, followed by one of S
pub record PairJoins (R S : List ℕ → List ℕ → Type 0) (u v : List ℕ) : Type 0 where
  pub front_in : List ℕ
  pub rest_in : List ℕ
  pub front_out : List ℕ
  pub rest_out : List ℕ
  pub split_in : u ≡ front_in ++ rest_in
  pub split_out : v ≡ front_out ++ rest_out
  pub in_front : R front_in front_out
  pub in_rest : S rest_in rest_out

-- the pair is a list of pairs of R, one after the other
pub record PairRepeats (R : List ℕ → List ℕ → Type 0) (u v : List ℕ) : Type 0 where
  pub pieces_in : List (List ℕ)
  pub pieces_out : List (List ℕ)
  pub joined_in : u ≡ concat pieces_in
  pub joined_out : v ≡ concat pieces_out
  pub each : AllZip R pieces_in pieces_out
