use Rattle.std.proofs.Common.{◌≡◌, ℕ, Some, true, [], get_or, length}
use Rattle.rela_labels.specs.Letters.{has}
use Rattle.rela_nfa.specs.Runs.{StepIn}
use Rattle.rela_closed.specs.Listing.{AreEdges}
use Rattle.rela_closed.specs.Splitting.{AreTold, remains}
use Rattle.rela_closed.proofs.TakenBlocks.{AreDone}
use Rattle.rela_closed.proofs.transitions.edges_from.Given as goal

abbrev pub invariant-loop-letter : goal.invariant-loop-letter
invariant-loop-letter g l = record {
  same : l.reader ≡ l.fn.reader;
  kept : l.table ≡ l.fn.table;
  size : length l.blocks.rest ≡ length (g.L.LabelSet.letters l.over);
  told : AreTold l.fn.reader (get_or l.fn.table l.number []) l.blocks;
  over : (k : ℕ) → remains l.blocks k ≡ true → has (g.L.LabelSet.letters l.over) k ≡ true;
  edges : AreEdges (g.L.LabelSet.letters l.over) l.fn.reader l.fn.table (get_or l.fn.table l.number []) l.letter l.bundle;
  done : AreDone (g.L.LabelSet.letters l.over) (λ k. (to : ℕ) × StepIn l.bundle (Some k) to) l.blocks l.letter;
}
