-- Where words of a set lead in a word. Place i of a word is behind its first i symbols.
use Rattle.std.specs.Prelude.{◌≡◌, ℕ, ◌+◌, ◌<◌, ◌↔◌, List, [], ◌∷◌, ◌++◌, Some, length, slice_get, map}
use Rattle.std.specs.List.{range_with_len}
use Rattle.rela_rir.specs.declared.set.SymbolSet.{SymbolSet}
use Rattle.rela_translate.specs.Lang.{IsMember}
use Rattle.rela_branches.specs.Places.{AreBelow, Has}
use Rattle.rela_branches.specs.declared.letters.Letter.{Letter}
use Rattle.rela_branches.specs.declared.letters.Letter.TheVariants.{Class, One, Path}

-- a word of X leads to the front from a shorter one, or from itself, that ends at one of the places
pub record Arrives (X : List ℕ → Type 0) (from : List ℕ) (front : List ℕ) : Type 0 where
  pub start : List ℕ
  pub piece : List ℕ
  pub joined : front ≡ start ++ piece
  pub begun : Has from (length start)
  pub in_set : X piece

-- `to` are the places of the word that words of X lead to from the places `from`
pub record IsLed (word : List ℕ) (X : List ℕ → Type 0) (from to : List ℕ) : Type 0 where
  pub below : AreBelow (length word + 1) to
  pub has : (front rest : List ℕ) → word ≡ front ++ rest →
      Has to (length front) ↔ Arrives X from front

-- the symbol is one of the letter
abbrev pub IsLetter : List SymbolSet → ℕ → Letter → ℕ → Type 0
IsLetter classes path_symbols (Class k) s = IsMember classes path_symbols k s
IsLetter classes path_symbols (One t) s = s ≡ t
IsLetter classes path_symbols Path s = s < path_symbols

-- a symbol of the letter is behind the place
abbrev pub IsBefore : List SymbolSet → ℕ → List ℕ → Letter → ℕ → Type 0
IsBefore classes path_symbols word letter i = (s : ℕ) × (slice_get word i ≡ Some s)
    × IsLetter classes path_symbols letter s

-- `to` are the places behind the symbols of the letter that are behind the places `from`
pub record IsStep (classes : List SymbolSet) (path_symbols : ℕ) (word : List ℕ) (letter : Letter)
    (from to : List ℕ) : Type 0 where
  pub below : AreBelow (length word + 1) to
  pub has : (j : ℕ) → Has to j
      ↔ ((i : ℕ) × Has from i × IsBefore classes path_symbols word letter i × (j ≡ i + 1))

-- for each place below the bound the set of it alone
abbrev pub singles : ℕ → List (List ℕ)
singles bound = map (λ i. i ∷ []) (range_with_len 0 bound)
