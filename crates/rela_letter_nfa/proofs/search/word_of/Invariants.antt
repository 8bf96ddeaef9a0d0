use Rattle.std.proofs.Common.{◌≡◌, ℕ, ◌≤◌, List, [], ◌++◌, length, get_or, reverse}
use Rattle.rela_letter_nfa.specs.Searching.{AreTraced}
use Rattle.rela_letter_nfa.proofs.search.word_of.Given as goal

abbrev pub invariant-loop-at : goal.invariant-loop-at
invariant-loop-at l = record {
  within : l.at ≤ length l.arrivals;
  spelled : (words : List (List ℕ)) → AreTraced words l.arrivals → get_or words l.number [] ≡ get_or words l.at [] ++ reverse l.letters.items;
}

abbrev pub decreases-loop-at : goal.decreases-loop-at
decreases-loop-at l = l.at
