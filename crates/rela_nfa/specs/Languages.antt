-- Sets of words made of others.
use Rattle.std.specs.Prelude.{◌≡◌, ℕ, Bool, true, List, [], ◌∷◌, ◌++◌}
use Rattle.std.specs.List.{All, concat}
use Rattle.rela_labels.specs.Letters.{has}

-- the word is one of P followed by one of Q
abbrev pub Joins : (List ℕ → Type 0) → (List ℕ → Type 0) → List ℕ → Type 0
Joins P Q word = (front : List ℕ) × (back : List ℕ) × (front ++ back ≡ word) × P front × Q back

-- the word is a list of words of P, one after the other
abbrev pub Repeats : (List ℕ → Type 0) → List ℕ → Type 0
Repeats P word = (pieces : List (List ℕ)) × All P pieces × (concat pieces ≡ word)

-- the word is one letter of the set
abbrev pub IsLetterOf : List Bool → List ℕ → Type 0
IsLetterOf set word = (k : ℕ) × (has set k ≡ true) × (word ≡ k ∷ [])
