use Rattle.std.proofs.Common.{◌≡◌, ◌++◌, map, take}
use Rattle.rela_letter_nfa.specs.Chains.{moved}
use Rattle.rela_letter_nfa.proofs.without_chains.push_moved.Given as goal

abbrev pub invariant-loop-edge : goal.invariant-loop-edge
invariant-loop-edge l = l.edges ≡ (l.fn.edges.0, l.fn.edges.1 ++ map (moved l.ends) (take l.edge-index l.others))
