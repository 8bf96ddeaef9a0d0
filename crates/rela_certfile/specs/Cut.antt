-- A text cut at the first byte of a value.
use Rattle.std.specs.Prelude.{◌≡◌, ◌≢◌, ℕ, List, ◌∷◌, ◌++◌}
use Rattle.std.specs.List.{AllByRecursion}

-- no byte has the value
abbrev pub Lacks : ℕ → List ℕ → Type 0
Lacks byte text = AllByRecursion (λ other. other ≢ byte) text

pub record IsCutAt (byte : ℕ) (text front rest : List ℕ) : Type 0 where
  pub joined : text ≡ front ++ byte ∷ rest
  pub first : Lacks byte front
