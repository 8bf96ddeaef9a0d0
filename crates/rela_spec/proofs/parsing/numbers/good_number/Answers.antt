use Rattle.std.proofs.Common.{◌+◌, ◌*◌, arith}
use Rattle.rela_spec.proofs.Numbers.{digits_more, too_great}
use Rattle.rela_spec.proofs.parsing.numbers.good_number.Goals as goal

pub returns-then-value-gt-MAX_TIMES : goal.returns-then-value-gt-MAX_TIMES
returns-then-value-gt-MAX_TIMES c =
    let value = digits_more c.args.word.now c.loop-byte.byte-index c.digit.result c.loop-byte.value (omega arith) c.requires c.digit.ensures.value c.loop-byte.invariant.read in
    too_great c.args.word.now c.loop-byte.byte-index (c.loop-byte.value * 10 + c.digit.result) value (omega arith)

pub loop-byte-preserved : goal.loop-byte-preserved
loop-byte-preserved c = record {
  low = omega arith;
  read = digits_more c.args.word.now c.loop-byte.byte-index c.digit.result c.loop-byte.value (omega arith) c.requires c.digit.ensures.value c.loop-byte.invariant.read;
}
