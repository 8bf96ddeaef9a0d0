use Rattle.std.proofs.Common.{◌≡◌, [], map}
use Rattle.std.specs.List.{range_with_len}
use Rattle.rela_nfa.specs.Meeting.{product_moves_at}
use Rattle.rela_nfa.proofs.meet.product_edges.Given as goal

abbrev pub invariant-loop-number : goal.invariant-loop-number
invariant-loop-number g l = (l.leaving.items ≡ []) × (l.edges ≡ map (product_moves_at l.first l.second l.explored) (range_with_len 0 l.number))
