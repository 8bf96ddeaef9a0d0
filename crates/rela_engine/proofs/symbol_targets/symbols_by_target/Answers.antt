use Rattle.std.proofs.Common.{◌∙◌}
use Rattle.std.proofs.lemmas.List.{get_or_default}
use Rattle.rela_engine.specs.AutomatonText.{symbols_below}
use Rattle.rela_engine.proofs.SymbolLists.{as_many, none_yet, one_put}
use Rattle.rela_engine.proofs.symbol_targets.symbols_by_target.Goals as goal

pub loop-s-init : goal.loop-s-init
loop-s-init c = c.in_ok-lists.ensures ∙ none_yet c.args.row.now c.args.targets.now

pub put-requires-clause-each : goal.put-requires-clause-each
put-requires-clause-each c = as_many (λ list. list.items) c.loop-s.lists.items (symbols_below c.args.row.now c.loop-s.s) c.args.targets.now c.loop-s.invariant

pub loop-s-preserved : goal.loop-s-preserved
loop-s-preserved c =
    one_put c.args.row.now c.args.targets.now c.loop-s.s _ _ (get_or_default c.args.row.now c.loop-s.s _ 0 c.loop-s-test.true)
    (c.in_ok-put.ensures (symbols_below c.args.row.now c.loop-s.s) c.loop-s.invariant)
