use Rattle.std.proofs.Common.{◌≡◌, ◌≤◌, ◌-◌, length}
use Rattle.rela_letter_nfa.specs.Pair.{IsSoughtSet, joined, starts_of}
use Rattle.rela_letter_nfa.specs.Searching.{AreUnwanted, IsSearched}
use Rattle.rela_letter_nfa.proofs.search.search_on.Given as goal

abbrev pub invariant-loop-number : goal.invariant-loop-number
invariant-loop-number l = record {
  few : length l.sets ≤ l.limit;
  upto : l.number ≤ length l.sets;
  unwanted : AreUnwanted (IsSoughtSet l.sought l.both) l.sets;
  count : l.visited.count ≡ l.fn.visited.count;
  searched : IsSearched (joined l.both) (starts_of l.both) l.sets l.arrivals.items l.number 0;
}

abbrev pub decreases-loop-number : goal.decreases-loop-number
decreases-loop-number l = l.limit - l.number
