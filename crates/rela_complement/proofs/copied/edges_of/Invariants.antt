use Rattle.std.proofs.Common.{◌≡◌, [], take}
use Rattle.rela_complement.proofs.copied.edges_of.Given as goal

abbrev pub invariant-loop-q : goal.invariant-loop-q
invariant-loop-q g l = record {
  edges : l.edges ≡ take l.q l.nfa.edges;
  none : l.leaving.items ≡ [];
}
