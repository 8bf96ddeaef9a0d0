use Rattle.std.proofs.Common.{◌≡◌, map}
use Rattle.rela_engine.specs.AutomatonText.{symbols_below}
use Rattle.rela_engine.proofs.symbol_targets.symbols_by_target.Given as goal

abbrev pub invariant-loop-s : goal.invariant-loop-s
invariant-loop-s l = map (λ list. list.items) l.lists.items ≡ map (symbols_below l.row l.s) l.targets
