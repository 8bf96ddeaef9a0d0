use Rattle.std.proofs.Common.{◌≡◌, [], map, take}
use Rattle.rela_subset.specs.Silent.{silents}
use Rattle.rela_subset.proofs.silent.silent_lists.Given as goal

abbrev pub invariant-loop-q : goal.invariant-loop-q
invariant-loop-q g l = record {
  edges : l.edges ≡ map silents (take l.q l.a.edges);
  none : l.leaving.items ≡ [];
}
