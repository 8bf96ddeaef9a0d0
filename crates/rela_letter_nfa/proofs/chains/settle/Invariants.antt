use Rattle.std.proofs.Common.{take}
use Rattle.rela_letter_nfa.proofs.ChainEnds.{IsSettled}
use Rattle.rela_letter_nfa.proofs.chains.settle.Given as goal

abbrev pub invariant-loop-p : goal.invariant-loop-p
invariant-loop-p l = IsSettled l.initial.ends l.ends (take l.p-index l.path) l.end
