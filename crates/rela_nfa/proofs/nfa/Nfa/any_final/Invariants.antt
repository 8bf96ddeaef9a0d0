use Rattle.std.proofs.Common.{ℕ, ◌<◌, get_or}
use Rattle.rela_nfa.specs.Automaton.{IsFinal}
use Rattle.rela_nfa.proofs.nfa.Nfa.any_final.Given as goal

abbrev pub invariant-loop-q : goal.invariant-loop-q
invariant-loop-q g l = (k : ℕ) → k < l.q-index → ¬ IsFinal l.self (get_or l.q-items k 0)
