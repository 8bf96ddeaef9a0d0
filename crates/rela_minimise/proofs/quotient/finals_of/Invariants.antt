use Rattle.std.proofs.Common.{◌≡◌, map, take}
use Rattle.rela_minimise.specs.Classes.{finality}
use Rattle.rela_minimise.proofs.quotient.finals_of.Given as goal

abbrev pub invariant-loop-q : goal.invariant-loop-q
invariant-loop-q g l = l.finals.items ≡ map (finality l.dfa) (take l.q-index l.heads)
