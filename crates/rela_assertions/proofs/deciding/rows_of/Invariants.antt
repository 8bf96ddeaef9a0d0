use Rattle.std.proofs.Common.{take}
use Rattle.rela_assertions.specs.Rows.{AreRowsOf}
use Rattle.rela_assertions.proofs.deciding.rows_of.Given as goal

-- the rows of the flows so far
abbrev pub invariant-loop-pair : goal.invariant-loop-pair
invariant-loop-pair l = AreRowsOf l.alphabet l.level l.states (take l.pair-index l.pairs) l.claims l.rows.items
