use Rattle.std.proofs.Common.{arith}
use Rattle.rela_reduce.proofs.Rows.{no_words}
use Rattle.rela_reduce.proofs.bits.clear_all.Goals as goal

pub returns : goal.returns
returns c = no_words c.loop-word.words (λ i within. c.loop-word.invariant i (omega arith))
