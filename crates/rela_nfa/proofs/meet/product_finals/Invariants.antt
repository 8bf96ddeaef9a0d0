use Rattle.std.proofs.Common.{◌≡◌, map, take}
use Rattle.rela_nfa.specs.Meeting.{final_both}
use Rattle.rela_nfa.proofs.meet.product_finals.Given as goal

abbrev pub invariant-loop-pair : goal.invariant-loop-pair
invariant-loop-pair g l = l.finals.items ≡ map (final_both l.first l.second) (take l.pair-index l.pairs)
