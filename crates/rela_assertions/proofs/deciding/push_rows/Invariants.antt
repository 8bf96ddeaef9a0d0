use Rattle.std.proofs.Common.{take}
use Rattle.rela_assertions.specs.Rows.{Appended, IsRowOf}
use Rattle.rela_assertions.proofs.deciding.push_rows.Given as goal

-- the rows so far, behind those from before
abbrev pub invariant-loop-claim : goal.invariant-loop-claim
invariant-loop-claim l =
    Appended (IsRowOf l.alphabet l.level l.complements l.pair) (take l.claim-index l.claims) l.fn.rows.items l.rows.items
