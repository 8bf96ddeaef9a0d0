use Rattle.std.proofs.Common.{bit_or}
use Rattle.rela_labels.proofs.WordBits.{IsDone}
use Rattle.rela_labels.proofs.words.join_words.Given as goal

abbrev pub invariant-loop-i : goal.invariant-loop-i
invariant-loop-i l = IsDone bit_or l.initial.words l.other l.words l.i
