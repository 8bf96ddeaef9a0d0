-- Silent chains: states that an automaton passes without a choice.
use Rattle.std.specs.Prelude.{◌≡◌, ◌⊎◌, ℕ, ◌<◌, ◌&&◌, Bool, not, List, [], ◌∷◌, ◌++◌, map, length, nat_eq, false, slice_index, slice_index_or, if◌then◌else◌}
use Rattle.std.specs.List.{Contains, flat_map, range_with_len}
use Rattle.rela_letter_nfa.specs.LetterAutomaton.{LetterAutomaton, IsFinal, edges_of, silents_of, states}
use Rattle.rela_letter_nfa.specs.Sets.{HasFlag}
use Rattle.rela_letter_nfa.specs.declared.edge.LetterEdge.{LetterEdge}

-- the state is not final, and its only step is a silent one, to r
pub record IsLink (a : LetterAutomaton) (q r : ℕ) : Type 0 where
  pub other : ¬ IsFinal a q
  pub silent : silents_of a q ≡ r ∷ []
  pub edgeless : edges_of a q ≡ []

-- each of the list is where the link before it leads; it goes from p to q
abbrev pub ByLinks : LetterAutomaton → ℕ → List ℕ → ℕ → Type 0
ByLinks a p [] q = p ≡ q
ByLinks a p (r ∷ rest) q = IsLink a p r × ByLinks a r rest q

-- a chain of links leads from p to q, which may be p
abbrev pub HasChain : LetterAutomaton → ℕ → ℕ → Type 0
HasChain a p q = (path : List ℕ) × ByLinks a p path q

-- the state is no link, unless a chain leads back to it
abbrev pub IsEnd : LetterAutomaton → ℕ → Type 0
IsEnd a q = (r : ℕ) → IsLink a q r → HasChain a r q

-- the state is not final, and its only step is an edge
abbrev pub is_single : LetterAutomaton → ℕ → Bool
is_single a q = not (slice_index_or a.finals q false) && nat_eq (length (silents_of a q)) 0
    && nat_eq (length (edges_of a q)) 1

-- chains lead from the states of the path, which had no flag and now have one, to the state, which has one too
pub record IsWalked (a : LetterAutomaton) (old new : List Bool) (path : List ℕ) (end : ℕ) : Type 0 where
  pub state : end < states a
  pub passed : HasFlag new end
  pub kept : (p : ℕ) → HasFlag old p → HasFlag new p
  pub only : (p : ℕ) → HasFlag new p → HasFlag old p ⊎ Contains path p
  pub fresh : (p : ℕ) → Contains path p → (p < states a) × (¬ HasFlag old p) × HasFlag new p
  pub led : (p : ℕ) → Contains path p → HasChain a p end
  pub onward : (p r : ℕ) → Contains path p → IsLink a p r → Contains path r ⊎ (r ≡ end)

-- one for each state: a chain leads to it from there, and from where a link leads to the same one
pub record AreEnds (a : LetterAutomaton) (ends : List ℕ) : Type 0 where
  pub count : length ends ≡ states a
  pub led : (q : ℕ) → q < states a → HasChain a q (slice_index ends q)
  pub same : (q r : ℕ) → q < states a → IsLink a q r → slice_index ends q ≡ slice_index ends r

-- the edge, its end moved on to the one that stands for it
abbrev pub moved : List ℕ → LetterEdge → LetterEdge
moved ends edge = record { letter = edge.letter; to = slice_index ends edge.to }

-- what remains of a silent step to q, where it leads at once to the end of the chain: none to a state with a single edge
abbrev pub kept_silent : LetterAutomaton → List ℕ → ℕ → List ℕ
kept_silent a ends q = if is_single a (slice_index ends q) then [] else slice_index ends q ∷ []

-- the edge in place of a silent step to q, where the chain ends at a state with a single edge
abbrev pub pulled_edges : LetterAutomaton → List ℕ → ℕ → List LetterEdge
pulled_edges a ends q = if is_single a (slice_index ends q)
    then map (moved ends) (edges_of a (slice_index ends q)) else []

-- the silent steps of the state, and its edges, which lead on at once
abbrev pub direct_silents : LetterAutomaton → List ℕ → ℕ → List ℕ
direct_silents a ends q = flat_map (kept_silent a ends) (silents_of a q)

abbrev pub direct_edges : LetterAutomaton → List ℕ → ℕ → List LetterEdge
direct_edges a ends q = map (moved ends) (edges_of a q)
    ++ flat_map (pulled_edges a ends) (silents_of a q)

-- the same automaton, of which the start and each step lead on at once
pub record IsDirect (a : LetterAutomaton) (ends : List ℕ) (r : LetterAutomaton) : Type 0 where
  pub start : r.start ≡ slice_index ends a.start
  pub finals : r.finals ≡ a.finals
  pub silents : r.silents ≡ map (direct_silents a ends) (range_with_len 0 (states a))
  pub edges : r.edges ≡ map (direct_edges a ends) (range_with_len 0 (states a))
