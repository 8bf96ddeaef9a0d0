use Rattle.rela_letter_image.proofs.Spelling.{HasLetters}
use Rattle.rela_letter_image.proofs.letter_by_letter.add_each.Given as goal

abbrev pub invariant-loop-letter : goal.invariant-loop-letter
invariant-loop-letter g l = HasLetters (g.L.LabelSet.letters l.set) l.to l.letter l.fn.builder.parts l.builder.parts
