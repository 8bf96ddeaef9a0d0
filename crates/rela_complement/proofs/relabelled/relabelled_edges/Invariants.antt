use Rattle.std.proofs.Common.{◌≡◌, [], map, take}
use Rattle.rela_nfa.specs.Relabelling.{relabelled_move}
use Rattle.rela_complement.proofs.relabelled.relabelled_edges.Given as goal

-- those of the states so far
abbrev pub invariant-loop-q : goal.invariant-loop-q
invariant-loop-q l = record {
  edges : l.edges ≡ map (map (relabelled_move l.letters)) (take l.q l.nfa.edges);
  none : l.leaving.items ≡ [];
}
