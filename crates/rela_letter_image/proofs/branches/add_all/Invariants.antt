use Rattle.std.proofs.Common.{ℕ, ◌↔◌, ◌⊎◌, take}
use Rattle.std.specs.List.{Contains}
use Rattle.rela_letter_image.proofs.branches.add_all.Given as goal

abbrev pub invariant-loop-state : goal.invariant-loop-state
invariant-loop-state l = (e : ℕ) → Contains l.ends.items e ↔ (Contains l.fn.ends.items e ⊎ Contains (take l.state-index l.states) e)
