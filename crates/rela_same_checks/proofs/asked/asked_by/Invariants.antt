use Rattle.std.proofs.Common.{All, Contains, map, take}
use Rattle.rela_same_checks.specs.SameChecks.{AreAskedAt}
use Rattle.rela_same_checks.proofs.asked.asked_by.Given as goal

-- the checks so far are asked for, and nothing else
abbrev pub invariant-loop-check : goal.invariant-loop-check
invariant-loop-check l = record {
  places : AreAskedAt (map (λ c. c.now) l.asked.items) (take l.check-index l.checks) l.places.items;
  given : All (Contains l.checks) (map (λ c. c.now) l.asked.items);
}
