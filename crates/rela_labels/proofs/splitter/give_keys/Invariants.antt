use Rattle.std.proofs.Common.{ℕ, ◌<◌, ◌≤◌, get_or}
use Rattle.rela_labels.specs.Splitting.{IsFresh}
use Rattle.rela_labels.proofs.splitter.give_keys.Given as goal

abbrev pub invariant-loop-s : goal.invariant-loop-s
invariant-loop-s l = record {
  fresh : IsFresh l.first l.moved.items;
  given : (j : ℕ) → j < l.s-index → l.first ≤ get_or l.moved.items (get_or l.keys (get_or l.members j 0) 0) 0;
}
