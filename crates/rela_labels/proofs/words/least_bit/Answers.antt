use Rattle.std.proofs.Common.{arith}
use Rattle.rela_labels.proofs.WordBits.{least_of_word, none_before, none_at_all}
use Rattle.rela_labels.proofs.words.least_bit.Goals as goal

pub returns-then-word-ne0-clause-member : goal.returns-then-word-ne0-clause-member
returns-then-word-ne0-clause-member c = least_of_word c.args.words.now c.loop-i.i (omega (arith, c.if-word-ne0.true)) ((c.type_inv.words c.loop-i.i).fits)

pub returns-then-word-ne0-clause-least : goal.returns-then-word-ne0-clause-least
returns-then-word-ne0-clause-least c = none_before c.args.words.now c.loop-i.i c.loop-i.invariant (omega (arith, c.if-word-ne0.true)) ((c.type_inv.words c.loop-i.i).fits)

pub returns-clause-none : goal.returns-clause-none
returns-clause-none c = none_at_all c.args.words.now (λ j within. c.loop-i.invariant j (omega arith))
