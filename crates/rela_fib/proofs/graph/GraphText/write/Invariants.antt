use Rattle.std.proofs.Common.{map, take}
use Rattle.rela_fib.specs.Steps.{graph_of}
use Rattle.rela_fib.specs.Writing.{IsTextOf}
use Rattle.rela_fib.proofs.graph.GraphText.write.Given as goal

abbrev pub invariant-loop-place : goal.invariant-loop-place
invariant-loop-place l = IsTextOf (graph_of (map (λ s. s.now) (take l.place l.steps))) l.self
