use Rattle.std.proofs.Common.{◌≡◌, ℕ, ◌+◌, ◌<◌, length, get_or}
use Rattle.rela_minimise.specs.Refining.{Goes}
use Rattle.rela_minimise.specs.Stored.{lists_of, stage_of}
use Rattle.rela_minimise.proofs.refinement.Refinement.targets.Given as goal

abbrev pub invariant-loop-q : goal.invariant-loop-q
invariant-loop-q g l = record {
  each : length l.targets.items ≡ l.q-index;
  goes : (i : ℕ) → i < l.q-index → Goes l.dfa (lists_of l.columns) (stage_of l.self) l.found (get_or l.waiting i 0) (get_or l.targets.items i 0);
  used : (j : ℕ) → j < length l.found → (i : ℕ) × (i < l.q-index) × (get_or l.targets.items i 0 ≡ length l.self.members.items + j);
}
