use Rattle.std.proofs.Common.{◌≡◌, take}
use Rattle.rela_complement.proofs.same_automaton.same_moves.Given as goal

-- of the states so far
abbrev pub invariant-loop-q : goal.invariant-loop-q
invariant-loop-q g l = take l.q l.a.edges ≡ take l.q l.b.edges
