use Rattle.std.proofs.Common.{ℕ, ◌<◌, length}
use Rattle.std.specs.List.{All, Contains}
use Rattle.rela_minimise.specs.Refining.{IsSettledIn}
use Rattle.rela_minimise.proofs.lists.has_settled.Given as goal

abbrev pub invariant-loop-q : goal.invariant-loop-q
invariant-loop-q l = record {
  states : All (λ q. q < length l.classes) l.list.items;
  kept : (q : ℕ) → Contains l.initial.list.items q → IsSettledIn l.classes l.stale l.class q → Contains l.list.items q;
}

abbrev pub decreases-loop-q : goal.decreases-loop-q
decreases-loop-q l = length l.list.items
