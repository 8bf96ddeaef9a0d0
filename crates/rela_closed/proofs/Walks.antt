-- Walks along the edges of an automaton stay among its states.
use Rattle.std.proofs.Common.{ℕ, ◌<◌, ◌↔◌, List, [], get_or, Option, None, Some, subst, inl, inr, arith}
use Rattle.std.specs.List.{All}
use Rattle.std.proofs.lemmas.Bool.{cases_lt}
use Rattle.std.proofs.lemmas.List.{get_or_past}
use Rattle.std.proofs.lemmas.List.Elements.{All-get_or, All-from_get_or, Contains-get_or}
use Rattle.rela_nfa.specs.Automaton.{Automaton, IsAutomaton, IsMove, moves_of, states}
use Rattle.rela_nfa.specs.Runs.{Reach, StepIn, HasStep}
use Rattle.rela_nfa.specs.StateSet.{Lists}
use Rattle.rela_closed.specs.Sets.{ReachedBy}
use Rattle.rela_closed.proofs.Reached.{reach_each}
use Rattle.rela_closed.proofs.Targets.{Contains-nil, step_within}

no_step : (letter : Option ℕ) (q : ℕ) → ¬ StepIn [] letter q
no_step None q step = Contains-nil _ step
no_step (Some k) q step = Contains-nil _ step.1

module _ (a : Automaton) (ok : IsAutomaton a) where
  -- an edge leads from a state to a state
  step_to_state : (p q : ℕ) (letter : Option ℕ) → HasStep a p letter q → q < states a
  step_to_state p q letter step = elim (cases_lt p (states a)) [
    | inl below ↦
        step_within a.letters (states a) (moves_of a p) letter q
        (All-get_or (All (IsMove a.letters (states a))) a.edges p [] (let each = ok.each in omega arith) ok.moves) step
    | inr past ↦ absurd (no_step letter q (subst (λ l. StepIn l letter q) (get_or_past a.edges p [] (let each = ok.each in omega arith)) step))
  ]

  -- a word reaches states
  pub reach_within : (q : ℕ) (word : List ℕ) → Reach a q word → q < states a
  reach_within = reach_each a (λ q word. q < states a) (λ p q letter word reach there step. step_to_state p q letter step) ok.starts

  pub set_within : (word set : List ℕ) → Lists (ReachedBy a word) set → All (λ q. q < states a) set
  set_within word set is = All-from_get_or (λ q. q < states a) set 0 (λ i below.
      reach_within (get_or set i 0) word ((is.members (get_or set i 0)).0 (Contains-get_or set i 0 below)))

-- the numbers of a set that is told in two ways
pub lists_as : (P Q : ℕ → Type 0) (set : List ℕ) → ((q : ℕ) → P q ↔ Q q) → Lists P set → Lists Q set
lists_as P Q set same is = record { ordered = is.ordered; members = λ q. (λ c. (same q).0 ((is.members q).0 c), λ holds. (is.members q).1 ((same q).1 holds)) }
