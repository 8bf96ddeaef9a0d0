use Rattle.std.proofs.Common.{ℕ, ◌+◌, ◌<◌, ◌≡◌, sym, subst}
use Rattle.std.specs.List.{Contains}
use Rattle.rela_reduce.specs.declared.ranking.Ranked.{Ranked}
use Rattle.rela_reduce.proofs.InOrder.{ranked_below, ranked_each}
use Rattle.rela_reduce.proofs.ranking.in_turn.Goals as goal

pub loop-state-preserved : goal.loop-state-preserved
loop-state-preserved c =
    let new : Ranked = record { state = c.loop-state.state; size = c.ones-size.result } in
    record {
      below =
          subst (λ order. (r : Ranked) → Contains order r → r.state < c.loop-state.state + 1) (sym c.in_ok-push.ensures.items)
          (ranked_below c.loop-state.order.items new c.loop-state.invariant.below);
      each =
          subst (λ order. (p : ℕ) → p < c.loop-state.state + 1 → (r : Ranked) × Contains order r × (r.state ≡ p)) (sym c.in_ok-push.ensures.items)
          (ranked_each c.loop-state.order.items new c.loop-state.invariant.each);
    }
