use Rattle.std.proofs.Common.{◌≡◌, ℕ, ◌<◌, length, get_or}
use Rattle.rela_letter_nfa.proofs.chains.numbers.Given as goal

abbrev pub invariant-loop-q : goal.invariant-loop-q
invariant-loop-q l = record { count : length l.numbers.items ≡ l.q; each : (p : ℕ) → p < l.q → get_or l.numbers.items p 0 ≡ p }
