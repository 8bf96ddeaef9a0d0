-- The silent edges of an automaton.
use Rattle.std.specs.Prelude.{◌≡◌, ℕ, ◌↔◌, Bool, List, [], ◌∷◌, Option, None, Some}
use Rattle.std.specs.List.{flat_map}
use Rattle.rela_nfa.specs.Automaton.{Automaton, Move, states}
use Rattle.rela_nfa.specs.Runs.{HasStep}

-- the edge by this label to this state, if it is silent
abbrev pub if_silent : Option (List Bool) → ℕ → List Move
if_silent None to = record { label = None; to = to } ∷ []
if_silent (Some set) to = []

-- those of the edges that are silent
abbrev pub silents : List Move → List Move
silents moves = flat_map (λ m. if_silent m.label m.to) moves

-- the other automaton has the same states, and the same silent edges lead on from each
pub record IsSilentAs (a other : Automaton) : Type 0 where
  pub count : states other ≡ states a
  pub silent : (p q : ℕ) → HasStep other p None q ↔ HasStep a p None q
