-- Lists of words that are closed for some terms. It is told by the places of the terms that words reach.
use Rattle.std.specs.Prelude.{ℕ, ◌<◌, List, [], ◌∷◌, ◌++◌, All, AllPairs, Contains}
use Rattle.rela_names.specs.Shortlex.{IsBefore, First}
use Rattle.rela_rir.specs.Meaning.{IsPathWord}
use Rattle.rela_rir.specs.Places.{Scene, Agree, At}
use Rattle.rela_rir.specs.declared.term.PathTerm.{PathTerm}

-- the two words reach the same places of each of the terms
abbrev pub AgreeOnAll : Scene → List PathTerm → List ℕ → List ℕ → Type 0
AgreeOnAll m terms v w = All (λ x. Agree (At m x) v w) terms

-- a listed word agrees with the word on each of the terms
abbrev pub IsMatched : Scene → List PathTerm → List (List ℕ) → List ℕ → Type 0
IsMatched m terms words word = (v : List ℕ) × Contains words v × AgreeOnAll m terms v word

-- each listed word with one of the symbols below n behind it agrees with a listed word
abbrev pub Closed : Scene → ℕ → List PathTerm → List (List ℕ) → Type 0
Closed m n terms words = (word : List ℕ) (s : ℕ) → Contains words word → s < n →
    IsMatched m terms words (word ++ s ∷ [])

-- The words stand in shortlex order, and each is the first word of the symbols below n that agrees with it on each
-- of the terms.
pub record AreFirst (m : Scene) (n : ℕ) (terms : List PathTerm)
    (words : List (List ℕ)) : Type 0 where
  pub ascending : AllPairs IsBefore words
  pub first : All (λ word. First (λ v. IsPathWord n v × AgreeOnAll m terms v word) word) words
