-- Steps and words of symbols as steps and words of letters.
use Rattle.std.specs.Prelude.{ℕ, ◌<◌, ◌≤◌, List, All, length, map}
use Rattle.std.specs.List.{slice_index_or}
use Rattle.rela_build.specs.Reading.{read_by}
use Rattle.rela_certfile.specs.declared.rows.Step.{Step}
use Rattle.rela_closed.specs.declared.step.Step as letters

-- the step by the letter of its symbol
abbrev pub letter_step : List ℕ → Step → letters.Step
letter_step blocks step = record { parent = step.parent; letter = read_by blocks step.symbol }

-- each word by the letters of its symbols
abbrev pub letter_words : List ℕ → List (List ℕ) → List (List ℕ)
letter_words blocks words = map (map (read_by blocks)) words

-- the symbols of the steps are below the bound, and each continues the empty word or that of an earlier step
abbrev pub AreInOrder : ℕ → List Step → Type 0
AreInOrder bound steps = All (λ step. step.symbol < bound) steps
    × ((i : ℕ) (step : Step) → i < length steps → (slice_index_or steps i step).parent ≤ i)
