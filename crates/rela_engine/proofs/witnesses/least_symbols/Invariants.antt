use Rattle.std.proofs.Common.{take}
use Rattle.rela_engine.specs.Seen.{AreLeast}
use Rattle.rela_engine.proofs.witnesses.least_symbols.Given as goal

abbrev pub invariant-loop-letter : goal.invariant-loop-letter
invariant-loop-letter l = AreLeast l.blocks (take l.letter-index l.letters) l.symbols.items
