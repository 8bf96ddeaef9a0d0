use Rattle.std.proofs.Common.{bit_and}
use Rattle.std.specs.Int.{bit_not, w64}
use Rattle.rela_labels.proofs.WordBits.{IsDone}
use Rattle.rela_labels.proofs.words.minus_words.Given as goal

abbrev pub invariant-loop-i : goal.invariant-loop-i
invariant-loop-i l = IsDone (λ a b. bit_and a (bit_not w64 b)) l.initial.words l.other l.words l.i
