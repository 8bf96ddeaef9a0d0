use Rattle.std.proofs.Common.{◌≡◌, ◌++◌, length}
use Rattle.std.specs.Vec.Iter.{into_iter_items, into_iter_len}
use Rattle.rela_nfa.specs.Stored.{moves_in}
use Rattle.rela_nfa.proofs.edge_lists.EdgeLists.from_lists.Given as goal

-- the lists so far
abbrev pub invariant-loop-edges : goal.invariant-loop-edges
invariant-loop-edges g l =
    (l.yielded ++ into_iter_items l.edges-iterator ≡ into_iter_items l.initial.edges-iterator) × (l.flat ≡ moves_in g.L.LabelSet.letters l.yielded)
    × (into_iter_len l.edges-iterator ≡ length (into_iter_items l.edges-iterator))
