use Rattle.std.proofs.Common.{ℕ, IsTrue}
use Rattle.rela_reduce.specs.Bits.{bit_of}
use Rattle.rela_reduce.specs.Simulation.{HasAnswer}
use Rattle.rela_reduce.specs.Stored.{lists_of}
use Rattle.rela_reduce.proofs.answers.answer.Given as goal

abbrev pub invariant-loop-step : goal.invariant-loop-step
invariant-loop-step l = (t : ℕ) → IsTrue (bit_of l.row t) → HasAnswer (lists_of l.within) (lists_of l.relation) l.steps l.k t
