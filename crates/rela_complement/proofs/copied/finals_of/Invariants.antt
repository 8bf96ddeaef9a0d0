use Rattle.std.proofs.Common.{◌≡◌, take}
use Rattle.rela_complement.proofs.copied.finals_of.Given as goal

abbrev pub invariant-loop-q : goal.invariant-loop-q
invariant-loop-q g l = l.finals.items ≡ take l.q l.nfa.finals
