use Rattle.std.proofs.Common.{ℕ, Some}
use Rattle.std.specs.List.{All, Contains}
use Rattle.rela_reduce.specs.Simulation.{arrows_of}
use Rattle.rela_reduce.specs.Stored.{lists_of}
use Rattle.rela_reduce.proofs.closed.steps_of.Given as goal

abbrev pub invariant-loop-q : goal.invariant-loop-q
invariant-loop-q l =
    All (λ step. (c : ℕ) × Contains l.states c × Contains (arrows_of (lists_of l.whole.arrows.items) c) (record { label = Some step.label; to = step.to })) l.steps.items
