-- Lists of words that are searched for, by letters, and the same by symbols.
use Rattle.std.specs.Prelude.{◌≡◌, ℕ, ◌<◌, Bool, List, [], ◌∷◌, All, AllPairs}
use Rattle.std.specs.List.{AllZip}
use Rattle.rela_build.specs.Notes.{AreNoted}
use Rattle.rela_build.specs.Reading.{HoldsJust}
use Rattle.rela_certfile.specs.declared.rows.Step.{Step}
use Rattle.rela_closed.specs.Closed.{IsClosed, ReachesLike}
use Rattle.rela_closed.specs.Words.{AreOrdered, words_of}
use Rattle.rela_closed.specs.declared.step.Step as letters
use Rattle.rela_labels.specs.Partition.{IsLeastOf}
use Rattle.rela_names.specs.Shortlex.{First, IsBefore}
use Rattle.rela_nfa.specs.Automaton.{Automaton}
use Rattle.rela_cert.specs.RowParts.{IsAfterImage, IsBeforeImage, lettering_at, locations_of, paths_at, symbols_at}
use Rattle.rela_cert.specs.Rows.{parts_of}
use Rattle.rela_cert.specs.declared.row.Row.{Row}

-- The words of the steps are closed for the automata and stand in shortlex order, and each is the first word over the
-- letters that reaches its states.
pub record AreFound (over : List Bool) (automata : List Automaton)
    (steps : List letters.Step) : Type 0 where
  pub ordered : AreOrdered steps
  pub closed : IsClosed over automata (words_of steps)
  pub first : All (λ word. First (ReachesLike over automata word) word) (words_of steps)
  pub ascending : AllPairs IsBefore (words_of steps)

-- such words for one automaton, whatever number it has
abbrev pub AreFoundFor : ℕ → Automaton → List Bool → List letters.Step → Type 0
AreFoundFor number a over steps = AreFound over (a ∷ []) steps

-- The words that are found for a row: for each complement those of its part, and those of the two images.
pub record AreRowWords (row : Row) (blocks : List ℕ) (complements : List (List letters.Step))
    (images : List letters.Step) : Type 0 where
  pub noted : AreNoted AreFoundFor (Unit {0}) (lettering_at row blocks) (paths_at row) 0
      (parts_of row.check.now (locations_of row)) complements
  pub before : Automaton
  pub after : Automaton
  pub made_before : IsBeforeImage (Unit {0}) row blocks before
  pub made_after : IsAfterImage (Unit {0}) row blocks after
  pub over : List Bool
  pub holds : HoldsJust blocks (λ s. s < symbols_at row) over
  pub found : AreFound over (before ∷ after ∷ []) images

-- the step by the least symbol of the block that is its letter
pub record IsBySymbol (blocks : List ℕ) (letter : letters.Step) (step : Step) : Type 0 where
  pub parent : step.parent ≡ letter.parent
  pub least : IsLeastOf blocks letter.letter step.symbol

-- so is each step
abbrev pub AreBySymbols : List ℕ → List letters.Step → List Step → Type 0
AreBySymbols blocks letters steps = AllZip (IsBySymbol blocks) letters steps

-- so is each step of each list
abbrev pub AreAllBySymbols : List ℕ → List (List letters.Step) → List (List Step) → Type 0
AreAllBySymbols blocks letters lists = AllZip (AreBySymbols blocks) letters lists
