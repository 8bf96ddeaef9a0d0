use Rattle.std.proofs.Common.{◌≡◌, ℕ, ◌≤◌, true, [], get_or, length}
use Rattle.rela_labels.specs.Letters.{has}
use Rattle.rela_closed.specs.Listing.{IsLed, IsSearched}
use Rattle.rela_closed.specs.Splitting.{AreTold, remains}
use Rattle.rela_closed.specs.Words.{AreOrdered, words_of}
use Rattle.rela_closed.proofs.TakenBlocks.{AreDone}
use Rattle.rela_closed.proofs.finding.leave.Given as goal

abbrev pub invariant-loop-letter : goal.invariant-loop-letter
invariant-loop-letter g l = record {
  same : l.reader ≡ l.fn.reader;
  more : length l.fn.table ≤ length l.table;
  few : length l.table ≤ l.limit;
  ordered : AreOrdered l.steps.items;
  searched : IsSearched (g.L.LabelSet.letters l.over) l.fn.reader (words_of l.steps.items) l.table l.number l.letter;
  told : AreTold l.fn.reader (get_or l.table l.number []) l.blocks;
  over : (k : ℕ) → remains l.blocks k ≡ true → has (g.L.LabelSet.letters l.over) k ≡ true;
  done : AreDone (g.L.LabelSet.letters l.over) (λ k. IsLed l.fn.reader (words_of l.steps.items) l.table l.number k) l.blocks l.letter;
}
