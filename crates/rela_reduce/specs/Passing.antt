-- States that an automaton passes silently, and the automaton whose edges lead past them.
use Rattle.std.specs.Prelude.{◌≡◌, ◌⊎◌, ℕ, ◌<◌, ◌↔◌, List, length, map, slice_index}
use Rattle.rela_nfa.specs.Automaton.{Automaton, IsFinal, states}
use Rattle.rela_nfa.specs.Detours.{IsDetour, redirected}

-- r is the state itself, or where it leads as a detour, and no detour then
abbrev pub IsPast : Automaton → ℕ → ℕ → Type 0
IsPast a q r = (r ≡ q) ⊎ (IsDetour a q r × ((s : ℕ) → ¬ IsDetour a r s))

-- for each state such a state
pub record ArePast (a : Automaton) (ends : List ℕ) : Type 0 where
  pub each : length ends ≡ states a
  pub within : (q : ℕ) → q < states a → slice_index ends q < states a
  pub past : (q : ℕ) → q < states a → IsPast a q (slice_index ends q)

-- the same automaton, of which the start and each edge lead on to these; states that are passed may be final
pub record LeadsPast (a : Automaton) (ends : List ℕ) (r : Automaton) : Type 0 where
  pub letters : r.letters ≡ a.letters
  pub start : r.start ≡ slice_index ends a.start
  pub count : states r ≡ states a
  pub finals : (q : ℕ) → q < states a → slice_index ends q ≡ q → IsFinal r q ↔ IsFinal a q
  pub edges : r.edges ≡ map (map (redirected ends)) a.edges
