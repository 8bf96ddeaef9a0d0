use Rattle.std.proofs.Common.{◌≡◌}
use Rattle.rela_witness.proofs.Growing.{Passing}
use Rattle.rela_witness.proofs.numbers.enter_all.Given as goal

abbrev pub invariant-loop-q : goal.invariant-loop-q
invariant-loop-q l = Passing (λ p q. p ≡ q) l.number l.fn.numbers.items l.numbers.items l.fn.layer.items l.layer.items l.states l.q-index
