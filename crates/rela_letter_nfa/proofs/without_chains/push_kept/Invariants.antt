use Rattle.std.proofs.Common.{◌≡◌, ◌++◌, take}
use Rattle.std.specs.List.{flat_map}
use Rattle.rela_letter_nfa.specs.Chains.{kept_silent}
use Rattle.rela_letter_nfa.proofs.without_chains.push_kept.Given as goal

abbrev pub invariant-loop-to : goal.invariant-loop-to
invariant-loop-to l = l.silents ≡ (l.fn.silents.0, l.fn.silents.1 ++ flat_map (kept_silent l.nfa l.ends) (take l.to-index l.to-items))
