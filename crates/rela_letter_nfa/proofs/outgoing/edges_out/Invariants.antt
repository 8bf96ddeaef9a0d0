use Rattle.std.proofs.Common.{◌≡◌, take}
use Rattle.std.specs.List.{flat_map}
use Rattle.rela_letter_nfa.specs.LetterAutomaton.{edges_of}
use Rattle.rela_letter_nfa.specs.Pair.{joined}
use Rattle.rela_letter_nfa.proofs.outgoing.edges_out.Given as goal

abbrev pub invariant-loop-q : goal.invariant-loop-q
invariant-loop-q l = l.edges.items ≡ flat_map (edges_of (joined l.both)) (take l.q-index l.set)
