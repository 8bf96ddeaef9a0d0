use Rattle.std.proofs.Common.{◌≡◌, take}
use Rattle.rela_nfa.specs.Automaton.{states}
use Rattle.rela_nfa.specs.Reading.{AreReached}
use Rattle.rela_nfa.proofs.nfa.Nfa.accepts.Given as goal

abbrev pub invariant-loop-letter : goal.invariant-loop-letter
invariant-loop-letter g l = record {
  count : l.reached.count ≡ states l.self;
  room : l.next.count ≡ states l.self;
  reached : AreReached l.self (take l.letter-index l.word) l.reached.states;
}
