use Rattle.std.proofs.Common.{◌≡◌, ℕ, true, [], get_or}
use Rattle.rela_labels.specs.Letters.{has}
use Rattle.rela_closed.specs.Listing.{IsFollowed}
use Rattle.rela_closed.specs.Splitting.{AreTold, remains}
use Rattle.rela_closed.proofs.TakenBlocks.{AreDone}
use Rattle.rela_closed.proofs.closedness.is_followed.Given as goal

abbrev pub invariant-loop-letter : goal.invariant-loop-letter
invariant-loop-letter g l = record {
  same : l.reader ≡ l.fn.reader;
  kept : l.table ≡ l.fn.table;
  told : AreTold l.fn.reader (get_or l.fn.table l.number []) l.blocks;
  over : (k : ℕ) → remains l.blocks k ≡ true → has (g.L.LabelSet.letters l.over) k ≡ true;
  followed : AreDone (g.L.LabelSet.letters l.over) (λ k. IsFollowed l.fn.reader l.fn.table (get_or l.fn.table l.number []) k) l.blocks l.letter;
}
