use Rattle.std.proofs.Common.{◌≡◌, ◌<◌, ◌≤◌, ℕ, [], get_or, length}
use Rattle.rela_letter_nfa.specs.Outgoing.{AreComing}
use Rattle.rela_letter_nfa.specs.Pair.{IsSoughtSet, joined, starts_of}
use Rattle.rela_letter_nfa.specs.Searching.{AreUnwanted, IsSearched}
use Rattle.rela_letter_nfa.proofs.spreading.spread.Given as goal

abbrev pub invariant-loop-first : goal.invariant-loop-first
invariant-loop-first l = record {
  number : l.number < length l.sets;
  longer : length l.fn.sets ≤ length l.sets;
  few : length l.sets ≤ l.limit;
  unwanted : AreUnwanted (IsSoughtSet l.sought l.both) l.sets;
  count : l.visited.count ≡ l.fn.visited.count;
  searched : (bound : ℕ) × IsSearched (joined l.both) (starts_of l.both) l.sets l.arrivals.items l.number bound × AreComing (joined l.both) (get_or l.sets l.number []) bound l.rest;
}

abbrev pub decreases-loop-first : goal.decreases-loop-first
decreases-loop-first l = length l.rest
