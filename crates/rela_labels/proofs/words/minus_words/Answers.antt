use Rattle.std.proofs.Common.{bit_and, ◌&&◌, not, refl, arith}
use Rattle.std.specs.Int.{bit_not, w64}
use Rattle.rela_labels.proofs.WordBits.{none_done, one_more_done, bits_done, minus_bitwise}
use Rattle.rela_labels.proofs.words.minus_words.Goals as goal

pub loop-i-init : goal.loop-i-init
loop-i-init c = none_done (λ a b. bit_and a (bit_not w64 b)) _ _

pub loop-i-preserved : goal.loop-i-preserved
loop-i-preserved c = one_more_done (λ a b. bit_and a (bit_not w64 b)) _ _ _ _ (omega arith) c.loop-i.invariant

pub returns : goal.returns
returns c = bits_done (λ a b. bit_and a (bit_not w64 b)) (λ x y. x && not y) minus_bitwise refl _ _ _ c.requires c.loop-i.auto.words c.type_inv.other c.loop-i.i c.loop-i-test.false c.loop-i.invariant
