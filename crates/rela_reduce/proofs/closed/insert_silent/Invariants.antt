use Rattle.std.proofs.Common.{ℕ, ◌⊎◌, None}
use Rattle.std.specs.List.{Contains}
use Rattle.rela_reduce.proofs.closed.insert_silent.Given as goal

abbrev pub invariant-loop-arrow : goal.invariant-loop-arrow
invariant-loop-arrow l = (t : ℕ) → Contains l.ends.items t → Contains l.initial.ends.items t ⊎ Contains l.arrows (record { label = None; to = t })
