use Rattle.std.proofs.Common.{eqb}
use Rattle.std.proofs.lemmas.List.Filters.{dedup_is}
use Rattle.rela_engine.proofs.SymbolLists.{ascends, besides}
use Rattle.rela_engine.proofs.symbol_targets.targets_besides.Goals as goal

pub returns-clause-ascending : goal.returns-clause-ascending
returns-clause-ascending c = ascends _ _ c.sort_unstable.ensures.sorted (dedup_is eqb _ _ c.dedup.ensures.filtered)

pub returns-clause-targets : goal.returns-clause-targets
returns-clause-targets c =
    besides c.args.row.now c.args.other _ _ _ c.in_ok-targets.ensures c.sort_unstable.ensures.sorted c.sort_unstable.ensures.permutation (dedup_is eqb _ _ c.dedup.ensures.filtered)
