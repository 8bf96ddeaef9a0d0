use Rattle.std.proofs.Common.{◌≡◌, map}
use Rattle.std.specs.List.{range_with_len}
use Rattle.rela_nfa.specs.Stored.{moves_in as edges_in}
use Rattle.rela_restriction.specs.Automata.{act_edges}
use Rattle.rela_restriction.proofs.acting.act_lists.Given as goal

abbrev pub invariant-loop-q : goal.invariant-loop-q
invariant-loop-q g l = edges_in g.L.LabelSet.letters l.lists.items ≡ map (act_edges l.transducer) (range_with_len 0 l.q)
