use Rattle.std.proofs.Common.{◌≡◌, All, take}
use Rattle.rela_plan.proofs.alike.one_level.Given as goal

-- the checks so far have the level
abbrev pub invariant-loop-check : goal.invariant-loop-check
invariant-loop-check l = All (λ check. check.level ≡ l.level) (take l.check-index l.checks)
