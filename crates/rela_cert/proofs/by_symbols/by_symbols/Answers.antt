use Rattle.std.proofs.Common.{◌+◌, subst, sym, take, arith}
use Rattle.rela_cert.specs.Found.{AreBySymbols, IsBySymbol}
use Rattle.rela_cert.proofs.Zips.{zip_more}
use Rattle.rela_cert.proofs.by_symbols.by_symbols.Goals as goal

pub loop-step-preserved : goal.loop-step-preserved
loop-step-preserved c =
    subst (AreBySymbols c.args.blocks.now (take (c.loop-step.step-index + 1) c.args.steps.now)) (sym c.in_ok-push.ensures.items)
    (zip_more (IsBySymbol c.args.blocks.now) c.args.steps.now c.loop-step.symbols.items c.loop-step.step-index _ c.by_symbol.result (omega arith) c.loop-step.invariant c.by_symbol.ensures)
