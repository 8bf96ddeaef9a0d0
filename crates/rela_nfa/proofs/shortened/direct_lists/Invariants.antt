use Rattle.std.proofs.Common.{◌≡◌, [], map}
use Rattle.std.specs.List.{range_with_len}
use Rattle.rela_nfa.specs.Detours.{direct_moves}
use Rattle.rela_nfa.proofs.shortened.direct_lists.Given as goal

abbrev pub invariant-loop-q : goal.invariant-loop-q
invariant-loop-q g l = (l.direct.items ≡ []) × (l.edges ≡ map (direct_moves l.nfa l.ends) (range_with_len 0 l.q))
