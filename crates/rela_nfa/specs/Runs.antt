-- What an automaton reads: lists of edges that follow one another, and the words that they spell.
use Rattle.std.specs.Prelude.{◌≡◌, ℕ, Bool, true, List, [], ◌∷◌, ◌++◌, Option, None, Some, Contains}
use Rattle.std.specs.Option.{option_to_list}
use Rattle.rela_labels.specs.Letters.{has}
use Rattle.rela_nfa.specs.Automaton.{Automaton, Move, moves_of, IsFinal}

-- an edge as it is taken: the letter that was read by it, none where it is silent, and where it leads
pub record Step : Type 0 where
  pub letter : Option ℕ
  pub to : ℕ

-- one of the edges leads to q, silently, or by a letter of its label
abbrev pub StepIn : List Move → Option ℕ → ℕ → Type 0
StepIn moves None q = Contains moves (record { label = None; to = q })
StepIn moves (Some k) q = (set : List Bool) × Contains moves (record { label = Some set; to = q })
    × (has set k ≡ true)

-- an edge leads from p to q
abbrev pub HasStep : Automaton → ℕ → Option ℕ → ℕ → Type 0
HasStep a p letter q = StepIn (moves_of a p) letter q

-- edges that follow one another lead from p to q
abbrev pub Follow : Automaton → ℕ → List Step → ℕ → Type 0
Follow a p [] q = p ≡ q
Follow a p (step ∷ rest) q = HasStep a p step.letter step.to × Follow a step.to rest q

-- the letters that were read; a silent edge spells nothing
abbrev pub spelled : List Step → List ℕ
spelled [] = []
spelled (step ∷ rest) = option_to_list step.letter ++ spelled rest

-- some list of edges leads from the start to q and spells the word
abbrev pub Reach : Automaton → ℕ → List ℕ → Type 0
Reach a q word = (steps : List Step) × Follow a a.start steps q × (spelled steps ≡ word)

-- the word leads from the start to some final state
abbrev pub Accepts : Automaton → List ℕ → Type 0
Accepts a word = (q : ℕ) × Reach a q word × IsFinal a q
