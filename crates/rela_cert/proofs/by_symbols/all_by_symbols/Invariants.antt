use Rattle.std.proofs.Common.{take}
use Rattle.rela_cert.specs.Found.{AreAllBySymbols}
use Rattle.rela_cert.proofs.by_symbols.all_by_symbols.Given as goal

abbrev pub invariant-loop-steps : goal.invariant-loop-steps
invariant-loop-steps l = AreAllBySymbols l.blocks (take l.steps-index l.lists) l.all.items
