use Rattle.std.proofs.Common.{not, count_by}
use Rattle.rela_letter_nfa.proofs.ChainEnds.{IsWalking}
use Rattle.rela_letter_nfa.proofs.chains.walk.Given as goal

abbrev pub invariant-loop-flags : goal.invariant-loop-flags
invariant-loop-flags l = IsWalking l.nfa l.q l.initial.flags l.flags l.path.items l.end

abbrev pub decreases-loop-flags : goal.decreases-loop-flags
decreases-loop-flags l = count_by not l.flags
