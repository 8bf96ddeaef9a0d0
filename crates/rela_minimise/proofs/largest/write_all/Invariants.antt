use Rattle.std.proofs.Common.{◌≡◌, ℕ, length, get_or, take}
use Rattle.std.specs.List.{Contains}
use Rattle.rela_minimise.proofs.largest.write_all.Given as goal

abbrev pub invariant-loop-q : goal.invariant-loop-q
invariant-loop-q l = record {
  each : length l.classes.items ≡ length l.initial.classes.items;
  written : (q : ℕ) → Contains (take l.q-index l.states) q → get_or l.classes.items q 0 ≡ l.class;
  others : (q : ℕ) → ¬ Contains l.states q → get_or l.classes.items q 0 ≡ get_or l.initial.classes.items q 0;
}
