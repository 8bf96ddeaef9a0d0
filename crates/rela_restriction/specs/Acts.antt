-- What a transducer does for a pair of words, as one word: its acts, and the letters that stand for them.
use Rattle.std.specs.Prelude.{◌≡◌, ℕ, ◌+◌, ◌<◌, ◌⊎◌, List, [], ◌∷◌, map, Contains}
use Rattle.std.specs.List.{All}

-- a symbol is read, or written, or read and written again
pub data Act : Type 0 where
  Reads : ℕ → Act
  Writes : ℕ → Act
  Keeps : ℕ → Act

abbrev pub symbol_of : Act → ℕ
symbol_of (Reads s) = s
symbol_of (Writes s) = s
symbol_of (Keeps s) = s

-- the letter of an act over n letters of symbols: the first n stand for reading one, the next n for writing one, and
-- the last n for both
abbrev pub act_letter : (ℕ → ℕ) → ℕ → Act → ℕ
act_letter read n (Reads s) = read s
act_letter read n (Writes s) = n + read s
act_letter read n (Keeps s) = n + (n + read s)

abbrev pub act_letters : (ℕ → ℕ) → ℕ → List Act → List ℕ
act_letters read n acts = map (act_letter read n) acts

-- the letter, over n letters of symbols, is that of an act that reads nothing, or one of the inputs
abbrev pub IsActOn : ℕ → List ℕ → ℕ → Type 0
IsActOn n inputs x = ((k : ℕ) × (k < n) × (x ≡ n + k))
    ⊎ ((k : ℕ) × Contains inputs k × ((x ≡ k) ⊎ (x ≡ n + (n + k))))

-- each symbol is read as one of the n letters
abbrev pub AreOfLetters : (ℕ → ℕ) → ℕ → List Act → Type 0
AreOfLetters read n acts = All (λ act. read (symbol_of act) < n) acts

-- all that is read
abbrev pub input_of : List Act → List ℕ
input_of [] = []
input_of (Reads s ∷ acts) = s ∷ input_of acts
input_of (Writes s ∷ acts) = input_of acts
input_of (Keeps s ∷ acts) = s ∷ input_of acts

-- all that is written
abbrev pub output_of : List Act → List ℕ
output_of [] = []
output_of (Reads s ∷ acts) = output_of acts
output_of (Writes s ∷ acts) = s ∷ output_of acts
output_of (Keeps s ∷ acts) = s ∷ output_of acts
