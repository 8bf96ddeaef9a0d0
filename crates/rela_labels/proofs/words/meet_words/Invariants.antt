use Rattle.std.proofs.Common.{bit_and}
use Rattle.rela_labels.proofs.WordBits.{IsDone}
use Rattle.rela_labels.proofs.words.meet_words.Given as goal

abbrev pub invariant-loop-i : goal.invariant-loop-i
invariant-loop-i l = IsDone bit_and l.initial.words l.other l.words l.i
