-- States that an automaton passes without a choice.
use Rattle.std.specs.Prelude.{◌≡◌, ◌⊎◌, ℕ, ◌<◌, ◌&&◌, Bool, true, false, not, List, [], ◌∷◌, map, Option, None, Some, slice_index, slice_index_or, if◌then◌else◌}
use Rattle.std.specs.List.{Contains, range_with_len}
use Rattle.rela_nfa.specs.Automaton.{Automaton, Move, states, moves_of, IsFinal}
use Rattle.rela_nfa.specs.Construction.{silent}
use Rattle.rela_nfa.specs.StateSet.{HasFlag}

-- the state is not final, and its only edge is silent, to r
abbrev pub IsDetour : Automaton → ℕ → ℕ → Type 0
IsDetour a q r = (¬ IsFinal a q) × (moves_of a q ≡ silent r ∷ [])

-- each of the list is where the detour before it leads; it goes from p to q
abbrev pub ByDetours : Automaton → ℕ → List ℕ → ℕ → Type 0
ByDetours a p [] q = p ≡ q
ByDetours a p (r ∷ rest) q = IsDetour a p r × ByDetours a r rest q

-- detours lead from p to q, which may be p
abbrev pub Detours : Automaton → ℕ → ℕ → Type 0
Detours a p q = (path : List ℕ) × ByDetours a p path q

-- the state is no detour, unless detours lead back to it
abbrev pub IsEnd : Automaton → ℕ → Type 0
IsEnd a q = (r : ℕ) → IsDetour a q r → Detours a r q

-- from the states of the path, which had no flag and now have one, detours lead to the state, which has one too
pub record IsWalked (a : Automaton) (old new : List Bool) (path : List ℕ) (end : ℕ) : Type 0 where
  pub state : end < states a
  pub passed : HasFlag new end
  pub kept : (p : ℕ) → HasFlag old p → HasFlag new p
  pub only : (p : ℕ) → HasFlag new p → HasFlag old p ⊎ Contains path p
  pub fresh : (p : ℕ) → Contains path p → (p < states a) × (¬ HasFlag old p) × HasFlag new p
  pub led : (p : ℕ) → Contains path p → Detours a p end
  pub onward : (p r : ℕ) → Contains path p → IsDetour a p r → Detours a r end

-- the edge has a label
abbrev pub has_label : Option (List Bool) → Bool
has_label None = false
has_label (Some set) = true

-- there is one edge, and it has a label
abbrev pub only_labelled : List Move → Bool
only_labelled [] = false
only_labelled (move ∷ []) = has_label move.label
only_labelled (move ∷ other ∷ rest) = false

-- the state is not final, and its only edge has a label
abbrev pub is_step : Automaton → ℕ → Bool
is_step a q = not (slice_index_or a.finals q false) && only_labelled (moves_of a q)

-- the edge itself; where it is silent and the state is a step, the edge of that step
abbrev pub pulled : Automaton → ℕ → Move → Move
pulled a end move = if not (has_label move.label) && is_step a end
    then slice_index_or (moves_of a end) 0 move else move

-- the edge, its end moved on to the one that stands for it
abbrev pub redirected : List ℕ → Move → Move
redirected ends move = record { label = move.label; to = slice_index ends move.to }

-- the edge that leads on at once, where detours lead from each state to the one that stands for it
abbrev pub direct : Automaton → List ℕ → Move → Move
direct a ends move = redirected ends (pulled a (slice_index ends move.to) move)

-- those of a state
abbrev pub direct_moves : Automaton → List ℕ → ℕ → List Move
direct_moves a ends p = map (direct a ends) (moves_of a p)

-- the same automaton, of which the start and each edge lead on at once
pub record IsDirect (a : Automaton) (ends : List ℕ) (r : Automaton) : Type 0 where
  pub letters : r.letters ≡ a.letters
  pub start : r.start ≡ slice_index ends a.start
  pub finals : r.finals ≡ a.finals
  pub edges : r.edges ≡ map (direct_moves a ends) (range_with_len 0 (states a))
