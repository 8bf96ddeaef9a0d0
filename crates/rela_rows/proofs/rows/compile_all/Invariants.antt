use Rattle.std.proofs.Common.{◌≡◌, All, length, map, take}
use Rattle.rela_rows.proofs.rows.compile_all.Given as goal

-- the checks so far, compiled
abbrev pub invariant-loop-check : goal.invariant-loop-check
invariant-loop-check l = record {
  same : map (λ c. c.check) l.compiled.items ≡ take l.check-index (map (λ c. c.now) l.checks);
  locations : All (λ c. c.locations ≡ length l.alphabet) l.compiled.items;
  limits : All (λ c. c.states ≡ l.states) l.compiled.items;
}
