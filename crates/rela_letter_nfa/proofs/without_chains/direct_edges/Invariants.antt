use Rattle.std.proofs.Common.{◌≡◌, [], map}
use Rattle.std.specs.List.{range_with_len}
use Rattle.rela_letter_nfa.specs.Chains.{direct_edges}
use Rattle.rela_letter_nfa.proofs.without_chains.direct_edges.Given as goal

abbrev pub invariant-loop-q : goal.invariant-loop-q
invariant-loop-q l = l.edges ≡ (map (direct_edges l.nfa l.ends) (range_with_len 0 l.q), [])
