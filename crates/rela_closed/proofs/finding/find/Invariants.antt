use Rattle.std.proofs.Common.{◌≡◌, ◌≤◌, ◌-◌, length, map}
use Rattle.rela_closed.specs.Listing.{IsSearched}
use Rattle.rela_closed.specs.Words.{AreOrdered, words_of}
use Rattle.rela_closed.proofs.finding.find.Given as goal

abbrev pub invariant-loop-number : goal.invariant-loop-number
invariant-loop-number g l = record {
  automata : l.reader ≡ map (λ a. a.now) l.automata;
  number : l.number ≤ length l.table;
  few : length l.table ≤ l.limit;
  ordered : AreOrdered l.steps.items;
  searched : IsSearched (g.L.LabelSet.letters l.over) l.reader (words_of l.steps.items) l.table l.number 0;
}

abbrev pub decreases-loop-number : goal.decreases-loop-number
decreases-loop-number g l = l.limit - l.number
