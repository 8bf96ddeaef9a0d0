use Rattle.rela_reduce.proofs.Rows.{IsJoined}
use Rattle.rela_reduce.proofs.bits.join.Given as goal

abbrev pub invariant-loop-i : goal.invariant-loop-i
invariant-loop-i l = IsJoined l.initial.words l.other l.words l.i
