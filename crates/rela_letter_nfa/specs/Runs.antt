-- What an automaton reads: steps that follow one another, and the words that they spell.
use Rattle.std.specs.Prelude.{◌≡◌, ℕ, List, [], ◌∷◌, ◌++◌, Option, None, Some, Contains}
use Rattle.std.specs.Option.{option_to_list}
use Rattle.rela_letter_nfa.specs.LetterAutomaton.{LetterAutomaton, IsFinal, edges_of, silents_of}

-- a step as it is taken: the letter that was read by it, none where it is silent, and where it leads
pub record Step : Type 0 where
  pub letter : Option ℕ
  pub to : ℕ

-- a silent step or an edge by the letter leads from p to q
abbrev pub HasStep : LetterAutomaton → ℕ → Option ℕ → ℕ → Type 0
HasStep a p None q = Contains (silents_of a p) q
HasStep a p (Some k) q = Contains (edges_of a p) (record { letter = k; to = q })

-- steps that follow one another lead from p to q
abbrev pub Follow : LetterAutomaton → ℕ → List Step → ℕ → Type 0
Follow a p [] q = p ≡ q
Follow a p (step ∷ rest) q = HasStep a p step.letter step.to × Follow a step.to rest q

-- the letters that were read; a silent step spells nothing
abbrev pub spelled : List Step → List ℕ
spelled [] = []
spelled (step ∷ rest) = option_to_list step.letter ++ spelled rest

-- some steps lead from the start to q and spell the word
abbrev pub Reach : LetterAutomaton → ℕ → List ℕ → Type 0
Reach a q word = (steps : List Step) × Follow a a.start steps q × (spelled steps ≡ word)

-- the word leads from the start to some final state
abbrev pub Accepts : LetterAutomaton → List ℕ → Type 0
Accepts a word = (q : ℕ) × Reach a q word × IsFinal a q
