use Rattle.std.proofs.Common.{take}
use Rattle.std.specs.List.{Contains}
use Rattle.rela_minimise.specs.Refining.{Marks}
use Rattle.rela_minimise.proofs.marking.mark_all.Given as goal

abbrev pub invariant-loop-q : goal.invariant-loop-q
invariant-loop-q l = Marks (Contains (take l.q-index l.states)) l.initial.stale l.initial.waiting.items l.stale l.waiting.items
