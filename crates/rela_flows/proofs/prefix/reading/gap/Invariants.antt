use Rattle.std.proofs.Common.{ℕ, ◌+◌, ◌<◌}
use Rattle.rela_flows.specs.Fields.{IsGap}
use Rattle.rela_flows.proofs.prefix.reading.gap.Given as goal

abbrev pub invariant-loop-i : goal.invariant-loop-i
invariant-loop-i l = (k : ℕ) → k + 1 < l.i → IsGap l.text k → ⊥
