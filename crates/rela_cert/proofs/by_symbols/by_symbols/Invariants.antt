use Rattle.std.proofs.Common.{take}
use Rattle.rela_cert.specs.Found.{AreBySymbols}
use Rattle.rela_cert.proofs.by_symbols.by_symbols.Given as goal

abbrev pub invariant-loop-step : goal.invariant-loop-step
invariant-loop-step l = AreBySymbols l.blocks (take l.step-index l.steps) l.symbols.items
