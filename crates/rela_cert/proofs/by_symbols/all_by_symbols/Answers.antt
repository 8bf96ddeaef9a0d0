use Rattle.std.proofs.Common.{◌∙◌, ◌+◌, List, subst, sym, take, arith}
use Rattle.rela_certfile.specs.declared.rows.Step.{Step}
use Rattle.rela_closed.specs.declared.step.Step as letters
use Rattle.rela_cert.specs.Found.{AreAllBySymbols, AreBySymbols}
use Rattle.rela_cert.proofs.Zips.{zip_more}
use Rattle.rela_cert.proofs.by_symbols.all_by_symbols.Goals as goal

pub loop-steps-preserved : goal.loop-steps-preserved
loop-steps-preserved c =
    let blocks = c.args.blocks.now in
    let made = c.in_ok-by_symbols.field-0 in
    let here = subst (λ (steps : List letters.Step). AreBySymbols blocks steps made) (c.as_slice.ensures ∙ c.steps-item.is) c.in_ok-by_symbols.ensures in
    subst (AreAllBySymbols blocks (take (c.loop-steps.steps-index + 1) c.args.lists.now)) (sym {A = List (List Step)} c.in_ok-push.ensures.items)
    (zip_more (AreBySymbols blocks) c.args.lists.now c.loop-steps.all.items c.loop-steps.steps-index c.steps-item.result made (omega arith) c.loop-steps.invariant here)
