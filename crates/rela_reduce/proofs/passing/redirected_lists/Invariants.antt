use Rattle.std.proofs.Common.{◌≡◌, [], map, take}
use Rattle.rela_nfa.specs.Detours.{redirected}
use Rattle.rela_reduce.proofs.passing.redirected_lists.Given as goal

abbrev pub invariant-loop-q : goal.invariant-loop-q
invariant-loop-q g l = record {
  edges : l.edges ≡ map (map (redirected l.ends)) (take l.q l.a.edges);
  none : l.leaving.items ≡ [];
}
