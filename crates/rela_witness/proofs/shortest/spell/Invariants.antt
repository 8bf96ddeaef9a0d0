use Rattle.std.proofs.Common.{◌≡◌, length}
use Rattle.rela_nfa.specs.Automaton.{states}
use Rattle.rela_witness.proofs.Spelling.{Choosing}
use Rattle.rela_witness.proofs.shortest.spell.Given as goal

abbrev pub invariant-loop-left : goal.invariant-loop-left
invariant-loop-left g l = record {
  count : length l.numbers.items ≡ states l.a;
  choosing : Choosing l.a l.distances l.word.items l.left l.numbers.items l.layer.items;
}

abbrev pub decreases-loop-left : goal.decreases-loop-left
decreases-loop-left g l = l.left
