use Rattle.std.proofs.Common.{◌≡◌, ℕ, [], length}
use Rattle.rela_trans.specs.Coaccessible.{list_at}
use Rattle.rela_trans.specs.Stored.{lists_of}
use Rattle.rela_trans.proofs.leading.empty_lists.Given as goal

abbrev pub invariant-loop-state : goal.invariant-loop-state
invariant-loop-state l = record { each : length l.lists.items ≡ l._state; empty : (q : ℕ) → list_at (lists_of l.lists.items) q ≡ [] }
