use Rattle.std.proofs.Common.{◌≡◌, ℕ, ◌+◌, ◌<◌, get_or}
use Rattle.rela_letter_nfa.specs.LetterAutomaton.{IsFinal}
use Rattle.rela_letter_nfa.proofs.both.has_final.Given as goal

abbrev pub invariant-loop-q : goal.invariant-loop-q
invariant-loop-q l = (i : ℕ) → i < l.q-index → ¬ ((p : ℕ) × (l.before + p ≡ get_or l.set i 0) × IsFinal l.a p)
