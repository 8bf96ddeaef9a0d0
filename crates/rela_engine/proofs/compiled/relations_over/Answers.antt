use Rattle.std.proofs.Common.{length}
use Rattle.rela_engine.proofs.CheckLetters.{letter_blocks}
use Rattle.rela_engine.proofs.compiled.relations_over.Goals as goal

pub check_letters-requires-clause-blocks : goal.check_letters-requires-clause-blocks
check_letters-requires-clause-blocks c = letter_blocks c.args.check.now (length c.args.alphabet.now) c.args.blocks.now c.requires.blocks
