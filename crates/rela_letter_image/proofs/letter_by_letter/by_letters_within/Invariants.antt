use Rattle.rela_letter_image.proofs.CopiedStates.{AreCopied}
use Rattle.rela_letter_image.proofs.letter_by_letter.by_letters_within.Given as goal

abbrev pub invariant-loop-q : goal.invariant-loop-q
invariant-loop-q g l = AreCopied l.nfa l.q l.builder.parts
