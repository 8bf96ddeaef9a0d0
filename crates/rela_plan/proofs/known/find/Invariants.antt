use Rattle.std.proofs.Common.{◌<◌, length}
use Rattle.rela_plan.proofs.known.find.Given as goal

abbrev pub invariant-loop : goal.invariant-loop
invariant-loop l = l.place < length l.known
