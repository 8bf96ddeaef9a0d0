use Rattle.std.proofs.Common.{ℕ, ◌≤◌, ◌<◌}
use Rattle.rela_certfile.specs.Layout.{IsRowLine}
use Rattle.rela_certfile.proofs.layout.PlanLayout.find.Given as goal

abbrev pub invariant-loop-place : goal.invariant-loop-place
invariant-loop-place l =
    (k : ℕ) → l.from ≤ k → k < l.place → IsRowLine l.self k l.line → ⊥
