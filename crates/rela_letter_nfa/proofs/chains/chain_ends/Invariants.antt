use Rattle.std.proofs.Common.{◌≡◌, ℕ, ◌<◌, length}
use Rattle.rela_letter_nfa.specs.LetterAutomaton.{states}
use Rattle.rela_letter_nfa.specs.Sets.{HasFlag}
use Rattle.rela_letter_nfa.proofs.ChainEnds.{AreEndsSoFar}
use Rattle.rela_letter_nfa.proofs.chains.chain_ends.Given as goal

abbrev pub invariant-loop-q : goal.invariant-loop-q
invariant-loop-q l = record {
  count : length l.flags.items ≡ states l.nfa;
  ends : AreEndsSoFar l.nfa l.flags.items l.ends.items;
  passed : (p : ℕ) → p < l.q → HasFlag l.flags.items p;
}
