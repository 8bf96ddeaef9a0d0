use Rattle.std.proofs.Common.{◌∙◌}
use Rattle.std.proofs.lemmas.Result.{on_ok_weaker}
use Rattle.rela_engine.proofs.SymbolLists.{found, not_found, put_at, put_nowhere}
use Rattle.rela_engine.proofs.symbol_targets.put.Goals as goal

pub returns-in-Ok : goal.returns-in-Ok
returns-in-Ok c =
    let at = found c.args.targets.now c.args.to c.in-Ok.place c.requires.ascending c.in-Ok.ensures.position in
    on_ok_weaker c.push_to.result
    (λ lists_are symbols before. lists_are ∙ put_at c.args.targets.now c.requires.ascending symbols c.args.to c.args.symbol _ c.in-Ok.place at.0 at.1 before)
    c.push_to.ensures

pub returns-in-Err : goal.returns-in-Err
returns-in-Err c symbols before =
    put_nowhere c.args.targets.now c.requires.ascending symbols c.args.to c.args.symbol _
    (not_found c.args.targets.now c.args.to _ c.requires.ascending c.in-Err.ensures.position) before
