use Rattle.std.proofs.Common.{◌≡◌, length, take}
use Rattle.rela_letter_nfa.specs.Buckets.{AreBucketed, AreWithin, befores, sets_at}
use Rattle.rela_letter_nfa.proofs.state_sets.enter_all.Given as goal

abbrev pub invariant-loop-number : goal.invariant-loop-number
invariant-loop-number l = record {
  within : AreWithin (length l.items) l.placed.items;
  same : sets_at l.items l.placed.items ≡ take l.number (sets_at l.items l.old);
  bucketed : AreBucketed (sets_at l.items l.placed.items) (befores l.placed.items) l.lasts.items;
}
