use Rattle.std.proofs.Common.{take}
use Rattle.rela_closed.specs.Sets.{HasFinal}
use Rattle.rela_closed.proofs.acceptance.has_final.Given as goal

abbrev pub invariant-loop-q : goal.invariant-loop-q
invariant-loop-q g l = ¬ HasFinal l.a (take l.q-index l.set)
