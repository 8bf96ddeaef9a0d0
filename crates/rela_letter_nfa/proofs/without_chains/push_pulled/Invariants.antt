use Rattle.std.proofs.Common.{◌≡◌, ◌++◌, take}
use Rattle.std.specs.List.{flat_map}
use Rattle.rela_letter_nfa.specs.Chains.{pulled_edges}
use Rattle.rela_letter_nfa.proofs.without_chains.push_pulled.Given as goal

abbrev pub invariant-loop-to : goal.invariant-loop-to
invariant-loop-to l = l.edges ≡ (l.fn.edges.0, l.fn.edges.1 ++ flat_map (pulled_edges l.nfa l.ends) (take l.to-index l.to-items))
