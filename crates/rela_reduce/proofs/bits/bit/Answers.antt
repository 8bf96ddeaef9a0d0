use Rattle.std.proofs.Common.{sym}
use Rattle.rela_reduce.proofs.Rows.{past_words, read_bit}
use Rattle.rela_reduce.proofs.bits.bit.Goals as goal

pub returns-in-Some : goal.returns-in-Some
returns-in-Some c = let h = c.in-Some.ensures.lookup in read_bit c.args.words.now c.args.j c.in-Some.word.now (h.3.1 0)

pub returns-in-None : goal.returns-in-None
returns-in-None c = let h = c.in-None.ensures.lookup in sym (past_words c.args.words.now c.args.j h.3)
