use Rattle.std.proofs.Common.{take}
use Rattle.rela_minimise.specs.Refining.{Marks}
use Rattle.rela_minimise.specs.Stored.{lists_of}
use Rattle.rela_minimise.proofs.OneByOne.{PrecedesOne}
use Rattle.rela_minimise.proofs.marking.mark_before.Given as goal

abbrev pub invariant-loop-q : goal.invariant-loop-q
invariant-loop-q l = Marks (PrecedesOne (lists_of l.predecessors) (take l.q-index l.states)) l.initial.stale l.initial.waiting.items l.stale l.waiting.items
