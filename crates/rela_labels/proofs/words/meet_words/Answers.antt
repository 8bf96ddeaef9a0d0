use Rattle.std.proofs.Common.{bit_and, ◌&&◌, refl, arith}
use Rattle.rela_labels.proofs.WordBits.{none_done, one_more_done, bits_done, meet_bitwise}
use Rattle.rela_labels.proofs.words.meet_words.Goals as goal

pub loop-i-init : goal.loop-i-init
loop-i-init c = none_done bit_and _ _

pub loop-i-preserved : goal.loop-i-preserved
loop-i-preserved c = one_more_done bit_and _ _ _ _ (omega arith) c.loop-i.invariant

pub returns : goal.returns
returns c = bits_done bit_and (◌&&◌) meet_bitwise refl _ _ _ c.requires c.loop-i.auto.words c.type_inv.other c.loop-i.i c.loop-i-test.false c.loop-i.invariant
