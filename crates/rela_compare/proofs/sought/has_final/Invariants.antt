use Rattle.std.proofs.Common.{◌≡◌, ℕ, ◌+◌, ◌<◌, get_or}
use Rattle.rela_nfa.specs.Automaton.{IsFinal}
use Rattle.rela_compare.proofs.sought.has_final.Given as goal

abbrev pub invariant-loop-state : goal.invariant-loop-state
invariant-loop-state g l = (i : ℕ) → i < l.state-index → ¬ ((q : ℕ) × (l.from + q ≡ get_or l.set i 0) × IsFinal l.a q)
