use Rattle.std.proofs.Common.{◌≡◌, ◌+◌, map, take}
use Rattle.rela_fib.proofs.Steps.{nexts, total}
use Rattle.rela_fib.proofs.graph.has_many_edges.Given as goal

abbrev pub invariant-loop-step : goal.invariant-loop-step
invariant-loop-step l = l.spare + total (nexts (map (λ s. s.now) (take l.step-index l.steps))) ≡ 100000
