use Rattle.std.proofs.Common.{◌≡◌, All, length, take}
use Rattle.rela_blame.specs.Zones.{checks_of}
use Rattle.rela_blame.proofs.zoning.branches_of_each.Given as goal

-- the checks so far
abbrev pub invariant-loop-check : goal.invariant-loop-check
invariant-loop-check l = record {
  checks : checks_of l.all.items ≡ take l.check-index l.checks;
  locations : All (λ branches. branches.locations ≡ length l.alphabet) l.all.items;
}
