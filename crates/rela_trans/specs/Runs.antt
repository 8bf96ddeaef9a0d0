-- What a transducer relates: lists of moves that follow one another, and the two words of symbols that they spell.
-- Each symbol is taken as a letter: `read` gives the letter of each symbol. Where symbols are letters it is the
-- identity; over a partition it gives each symbol its block.
use Rattle.std.specs.Prelude.{◌≡◌, ℕ, Bool, true, List, [], ◌∷◌, ◌++◌, Contains}
use Rattle.rela_labels.specs.Letters.{has}
use Rattle.rela_trans.specs.Machine.{Machine, Kind, moves_of, IsFinal}
use Rattle.rela_trans.specs.declared.moves.Move.{Move}
use Rattle.rela_trans.specs.declared.moves.MoveKind.TheVariants.{Silent, In, Out, Same}

-- the word is one symbol, whose letter is in the set
abbrev pub IsSymbolOf : (ℕ → ℕ) → List Bool → List ℕ → Type 0
IsSymbolOf read set word = (s : ℕ) × (has set (read s) ≡ true) × (word ≡ s ∷ [])

-- by a move of this kind the first word may be read while the second is written
abbrev pub Does : (ℕ → ℕ) → Kind → List ℕ → List ℕ → Type 0
Does read Silent input output = (input ≡ []) × (output ≡ [])
Does read (In set) input output = IsSymbolOf read set input × (output ≡ [])
Does read (Out set) input output = (input ≡ []) × IsSymbolOf read set output
Does read (Same set) input output = IsSymbolOf read set input × (output ≡ input)

-- a move as it is made: what was read by it, what was written, and where it leads
pub record Step : Type 0 where
  pub input : List ℕ
  pub output : List ℕ
  pub to : ℕ

-- one of the moves leads to q, reading the first word and writing the second
abbrev pub StepIn : (ℕ → ℕ) → List (Move (List Bool)) → List ℕ → List ℕ → ℕ → Type 0
StepIn read moves input output q = (kind : Kind) × Contains moves (record { kind = kind; to = q })
    × Does read kind input output

-- a move leads from p to q
abbrev pub HasStep : (ℕ → ℕ) → Machine → ℕ → List ℕ → List ℕ → ℕ → Type 0
HasStep read t p input output q = StepIn read (moves_of t p) input output q

-- moves that follow one another lead from p to q
abbrev pub Follow : (ℕ → ℕ) → Machine → ℕ → List Step → ℕ → Type 0
Follow read t p [] q = p ≡ q
Follow read t p (step ∷ rest) q = HasStep read t p step.input step.output step.to
    × Follow read t step.to rest q

-- all that was read
abbrev pub inputs : List Step → List ℕ
inputs [] = []
inputs (step ∷ rest) = step.input ++ inputs rest

-- all that was written
abbrev pub outputs : List Step → List ℕ
outputs [] = []
outputs (step ∷ rest) = step.output ++ outputs rest

-- some list of moves leads from the start to q, reads u and writes v
abbrev pub ReachR : (ℕ → ℕ) → Machine → ℕ → List ℕ → List ℕ → Type 0
ReachR read t q u v = (steps : List Step) × Follow read t t.start steps q × (inputs steps ≡ u)
    × (outputs steps ≡ v)

-- the pair leads from the start to some final state
abbrev pub Relates : (ℕ → ℕ) → Machine → List ℕ → List ℕ → Type 0
Relates read t u v = (q : ℕ) × ReachR read t q u v × IsFinal t q
