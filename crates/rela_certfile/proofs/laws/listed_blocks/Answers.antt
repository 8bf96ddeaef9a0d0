use Rattle.rela_certfile.proofs.Derived.{row_block_is}
use Rattle.rela_certfile.proofs.laws.listed_blocks.Goals as goal

pub returns : goal.returns
returns c = λ rows i k row is. row_block_is rows i k row is
