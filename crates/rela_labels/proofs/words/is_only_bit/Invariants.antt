use Rattle.std.proofs.Common.{ℕ, ◌<◌, get_or}
use Rattle.rela_labels.proofs.WordBits.{IsWordOf}
use Rattle.rela_labels.proofs.words.is_only_bit.Given as goal

abbrev pub invariant-loop-i : goal.invariant-loop-i
invariant-loop-i l = (j : ℕ) → j < l.i → IsWordOf l.letter j (get_or l.words j 0)
