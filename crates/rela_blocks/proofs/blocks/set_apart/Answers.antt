use Rattle.std.proofs.Common.{arith}
use Rattle.rela_blocks.proofs.blocks.set_apart.Goals as goal

pub push_range-requires-clause-first : goal.push_range-requires-clause-first
push_range-requires-clause-first c = omega (arith, c.drop_symbol-first.ensures.number, c.len.ensures.alphabet.few)
