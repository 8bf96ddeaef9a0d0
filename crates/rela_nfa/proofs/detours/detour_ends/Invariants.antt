use Rattle.std.proofs.Common.{◌≡◌, ℕ, ◌<◌, length}
use Rattle.rela_nfa.specs.StateSet.{HasFlag}
use Rattle.rela_nfa.proofs.Detouring.{AreEnds}
use Rattle.rela_nfa.specs.Automaton.{states}
use Rattle.rela_nfa.proofs.detours.detour_ends.Given as goal

abbrev pub invariant-loop-q : goal.invariant-loop-q
invariant-loop-q g l = record {
  count : length l.flags.items ≡ states l.nfa;
  ends : AreEnds l.nfa l.flags.items l.ends.items;
  passed : (p : ℕ) → p < l.q → HasFlag l.flags.items p;
}
