use Rattle.rela_letter_image.proofs.Laying.{IsCopied}
use Rattle.rela_letter_image.proofs.laying_out.wide_copy.Given as goal

abbrev pub invariant-loop-letter : goal.invariant-loop-letter
invariant-loop-letter g l = IsCopied (g.M.LabelSet.letters l.set) l.letter l.copy
