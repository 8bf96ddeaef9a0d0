use Rattle.rela_labels.proofs.ReachedSymbols.{IsLinkedFrom}
use Rattle.rela_labels.proofs.base.next_of_block.Given as goal

abbrev pub invariant-loop-s : goal.invariant-loop-s
invariant-loop-s l = IsLinkedFrom l.blocks l.next.items l.after.items l.count l.s
