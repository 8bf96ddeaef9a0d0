use Rattle.std.proofs.Common.{take}
use Rattle.std.specs.List.{All}
use Rattle.rela_reduce.specs.Simulation.{IsInRow}
use Rattle.rela_reduce.specs.Stored.{lists_of}
use Rattle.rela_reduce.proofs.simulation.goes_along.Given as goal

abbrev pub invariant-loop-arrow : goal.invariant-loop-arrow
invariant-loop-arrow l = All (IsInRow (lists_of l.relation) (lists_of l.answers) l.p) (take l.arrow-index l.arrow-items)
