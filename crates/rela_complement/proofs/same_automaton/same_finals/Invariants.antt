use Rattle.std.proofs.Common.{◌≡◌, take}
use Rattle.rela_complement.proofs.same_automaton.same_finals.Given as goal

-- in the states so far
abbrev pub invariant-loop-q : goal.invariant-loop-q
invariant-loop-q g l = take l.q l.a.finals ≡ take l.q l.b.finals
