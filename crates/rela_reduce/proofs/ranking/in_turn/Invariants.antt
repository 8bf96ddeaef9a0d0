use Rattle.std.proofs.Common.{◌≡◌, ℕ, ◌<◌}
use Rattle.std.specs.List.{Contains}
use Rattle.rela_reduce.specs.declared.ranking.Ranked.{Ranked}
use Rattle.rela_reduce.proofs.ranking.in_turn.Given as goal

abbrev pub invariant-loop-state : goal.invariant-loop-state
invariant-loop-state l = record {
  below : (r : Ranked) → Contains l.order.items r → r.state < l.state;
  each : (p : ℕ) → p < l.state → (r : Ranked) × Contains l.order.items r × (r.state ≡ p);
}
