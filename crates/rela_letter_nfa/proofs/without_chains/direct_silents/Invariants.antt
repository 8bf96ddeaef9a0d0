use Rattle.std.proofs.Common.{◌≡◌, [], map}
use Rattle.std.specs.List.{range_with_len}
use Rattle.rela_letter_nfa.specs.Chains.{direct_silents}
use Rattle.rela_letter_nfa.proofs.without_chains.direct_silents.Given as goal

abbrev pub invariant-loop-q : goal.invariant-loop-q
invariant-loop-q l = l.silents ≡ (map (direct_silents l.nfa l.ends) (range_with_len 0 l.q), [])
