use Rattle.std.proofs.Common.{◌≡◌, length}
use Rattle.rela_minimise.proofs.Origins.{AreMet}
use Rattle.rela_minimise.proofs.refinement.Refinement.origins.Given as goal

abbrev pub invariant-loop-i : goal.invariant-loop-i
invariant-loop-i l = record {
  each : length l.origins.items ≡ l.count;
  met : AreMet l.waiting l.targets l.first l.self.classes.items l.i l.origins.items;
}
