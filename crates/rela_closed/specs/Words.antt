-- Lists of words, each of which is an earlier one with a letter behind it.
use Rattle.std.specs.Prelude.{◌≡◌, ℕ, ◌<◌, ◌≤◌, ◌⊎◌, List, [], ◌∷◌, ◌++◌, length, slice_index_or}
use Rattle.rela_names.specs.Shortlex.{IsBefore}
use Rattle.rela_closed.specs.declared.step.Step.{Step}

-- the words, and behind them for each step the word of its parent's number with its letter
abbrev pub words_from : List (List ℕ) → List Step → List (List ℕ)
words_from words [] = words
words_from words (step ∷ steps) =
    words_from (words ++ (slice_index_or words step.parent [] ++ step.letter ∷ []) ∷ []) steps

-- the empty word, and one word for each step
abbrev pub words_of : List Step → List (List ℕ)
words_of steps = words_from ([] ∷ []) steps

-- the parent of each step is the empty word or that of a step before it
abbrev pub AreOrdered : List Step → Type 0
AreOrdered steps = (i : ℕ) (step : Step) → i < length steps →
    (slice_index_or steps i step).parent ≤ i

-- the word is not after the other
abbrev pub IsUpTo : List ℕ → List ℕ → Type 0
IsUpTo u v = (u ≡ v) ⊎ IsBefore u v
