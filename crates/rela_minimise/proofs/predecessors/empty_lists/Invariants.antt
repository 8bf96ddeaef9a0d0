use Rattle.std.proofs.Common.{◌≡◌, ℕ, [], length, get_or}
use Rattle.rela_minimise.specs.Stored.{lists_of}
use Rattle.rela_minimise.proofs.predecessors.empty_lists.Given as goal

abbrev pub invariant-loop-i : goal.invariant-loop-i
invariant-loop-i l = record { each : length l.lists.items ≡ l._i; empty : (i : ℕ) → get_or (lists_of l.lists.items) i [] ≡ [] }
