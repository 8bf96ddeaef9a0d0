use Rattle.std.proofs.Common.{◌≡◌, ℕ, ◌<◌, sym, subst}
use Rattle.std.specs.List.{Contains}
use Rattle.rela_reduce.specs.declared.ranking.Ranked.{Ranked}
use Rattle.rela_reduce.proofs.widening.widened.Goals as goal

pub widen-requires-clause-below : goal.widen-requires-clause-below
widen-requires-clause-below c = subst (λ order. (r : Ranked) → Contains order r → r.state < c.len-states.result) (sym c.deref-2.ensures.value) c.in_ok-order.ensures.below

pub widen-requires-clause-each : goal.widen-requires-clause-each
widen-requires-clause-each c =
    subst (λ order. (p : ℕ) → p < c.len-states.result → (r : Ranked) × Contains order r × (r.state ≡ p)) (sym c.deref-2.ensures.value) c.in_ok-order.ensures.each
