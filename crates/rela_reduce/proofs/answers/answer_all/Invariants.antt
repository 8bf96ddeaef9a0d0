use Rattle.std.proofs.Common.{ℕ, ◌<◌}
use Rattle.rela_reduce.specs.Bits.{HasBit}
use Rattle.rela_reduce.specs.Simulation.{HasAnswer}
use Rattle.rela_reduce.specs.Stored.{lists_of}
use Rattle.rela_reduce.proofs.answers.answer_all.Given as goal

abbrev pub invariant-loop-k : goal.invariant-loop-k
invariant-loop-k l = (k t : ℕ) → k < l.k → HasBit (lists_of l.answers) k t → HasAnswer (lists_of l.within) (lists_of l.relation) l.steps k t
