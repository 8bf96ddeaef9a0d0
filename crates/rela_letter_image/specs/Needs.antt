-- Pairs that lead to no final pair, as can be told by letters: those that a transducer still needs, and those that the
-- paths still have. Words of 64 bits stand for sets of coarse letters below 64.
use Rattle.std.specs.Prelude.{◌≡◌, ℕ, ◌<◌, ◌⊎◌, List, Contains, slice_index}
use Rattle.std.specs.Int.{bit_at}
use Rattle.std.specs.List.{All}
use Rattle.rela_pairs.specs.declared.pair.Pair.{Pair}
use Rattle.rela_letter_nfa.specs.LetterAutomaton.{LetterAutomaton, edges_of, silents_of}
use Rattle.rela_letter_nfa.specs.Runs.{spelled, Follow as FollowLetters, Step as LetterStep}
use Rattle.rela_letter_nfa.specs.declared.edge.LetterEdge.{LetterEdge}
use Rattle.rela_trans.specs.Machine.{Machine, IsFinal}
use Rattle.rela_trans.specs.Runs.{Follow, Step, inputs}
use Rattle.rela_letter_image.specs.LetterMoves.{Laid}

-- the letter is one of the word
abbrev pub Has : ℕ → ℕ → Type 0
Has word k = bit_at word k ≡ 1

-- each letter of the word is one of the other
abbrev pub IsWithin : ℕ → ℕ → Type 0
IsWithin word other = (k : ℕ) → k < 64 → Has word k → Has other k

-- a letter whose coarse letter is k is read on each way from q to a final state
abbrev pub Needs : Machine → ℕ → ℕ → Type 0
Needs t q k = (read : ℕ → ℕ) (steps : List Step) (f : ℕ) → Follow read t q steps f → IsFinal t f →
    (c : ℕ) × Contains (inputs steps) c × (read c ≡ k)

-- for each state some of the letters that it needs
abbrev pub AreNeeds : Machine → List ℕ → Type 0
AreNeeds t needs = (q k : ℕ) → k < 64 → Has (slice_index needs q) k → Needs t q k

-- for each state at least the coarse letters below 64 of what is spelled from there
abbrev pub AreAhead : (ℕ → ℕ) → LetterAutomaton → List ℕ → Type 0
AreAhead read a ahead = (p q c : ℕ) (steps : List LetterStep) → FollowLetters a p steps q →
    Contains (spelled steps) c → read c < 64 → Has (slice_index ahead p) (read c)

-- for the states of the transducer the letters that they need, and for those of the automaton the ones ahead
pub record Told : Type 0 where
  pub needs : List ℕ
  pub ahead : List ℕ

-- the letters that are needed are ahead
abbrev pub IsLive : Told → Pair → Type 0
IsLive told x = IsWithin (slice_index told.needs x.right) (slice_index told.ahead x.left)

-- from no pair that isn't live do the two go to where the transducer is final, and read the same
abbrev pub TellsLive : (ℕ → ℕ) → LetterAutomaton → Machine → Told → Type 0
TellsLive read a t told = (x : Pair) (first : List LetterStep) (p : ℕ) (second : List Step) (f : ℕ) →
    FollowLetters a x.left first p → Follow read t x.right second f →
    inputs second ≡ spelled first → IsFinal t f → IsLive told x

-- what a state needs is needed behind each of its moves too, if it isn't read there
pub record AreKept (needs : List ℕ) (need : ℕ) (state : Laid) : Type 0 where
  pub alone : All (λ move. IsWithin need (slice_index needs move.to)) state.alone
  pub by_set : All (λ move. IsWithin need (slice_index needs move.to)) state.by_set
  pub by_letter : All (λ move. (k : ℕ) → k < 64 → Has need k →
      Has (slice_index needs move.to) k ⊎ (k ≡ move.letter)) state.by_letter

-- what is ahead where the edge leads, and the letter of the edge, are among these
pub record IsEdgeAhead (read : ℕ → ℕ) (ahead : List ℕ) (here : ℕ) (edge : LetterEdge) : Type 0 where
  pub later : IsWithin (slice_index ahead edge.to) here
  pub own : read edge.letter < 64 → Has here (read edge.letter)

-- what is ahead where the state leads is ahead of it
pub record IsToldAhead (read : ℕ → ℕ) (a : LetterAutomaton) (ahead : List ℕ) (p : ℕ) : Type 0 where
  pub silents : All (λ q. IsWithin (slice_index ahead q) (slice_index ahead p)) (silents_of a p)
  pub edges : All (IsEdgeAhead read ahead (slice_index ahead p)) (edges_of a p)
