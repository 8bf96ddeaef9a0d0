use Rattle.std.proofs.Common.{not, count_by}
use Rattle.rela_nfa.proofs.Detouring.{IsWalking}
use Rattle.rela_nfa.proofs.detours.walk.Given as goal

abbrev pub invariant-loop-flags : goal.invariant-loop-flags
invariant-loop-flags g l = IsWalking l.nfa l.q l.initial.flags l.flags l.path.items l.end

abbrev pub decreases-loop-flags : goal.decreases-loop-flags
decreases-loop-flags g l = count_by not l.flags
