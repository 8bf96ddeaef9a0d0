use Rattle.std.proofs.Common.{◌≡◌, ◌++◌, [], map}
use Rattle.std.specs.List.{range_with_len}
use Rattle.rela_nfa.specs.Construction.{leaving}
use Rattle.rela_nfa.proofs.nfa.Nfa.copy_onto.Given as goal

abbrev pub invariant-loop-q : goal.invariant-loop-q
invariant-loop-q g l = (l.leaving.items ≡ []) × (l.edges ≡ l.fn.edges ++ map (leaving l.self l.by l.exit) (range_with_len 0 l.q))
