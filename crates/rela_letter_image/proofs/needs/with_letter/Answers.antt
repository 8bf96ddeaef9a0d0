use Rattle.std.proofs.Common.{inl, arith}
use Rattle.rela_letter_image.proofs.Needing.{letter_here, letter_kept, letter_others}
use Rattle.rela_letter_image.proofs.needs.with_letter.Goals as goal

pub returns-then-letter-lt64-clause-kept : goal.returns-then-letter-lt64-clause-kept
returns-then-letter-lt64-clause-kept c = letter_kept c.args.word c.args.letter (omega (arith, c.if-letter-lt64.true))

pub returns-then-letter-lt64-clause-here : goal.returns-then-letter-lt64-clause-here
returns-then-letter-lt64-clause-here c = λ small. letter_here c.args.word c.args.letter small

pub returns-then-letter-lt64-clause-others : goal.returns-then-letter-lt64-clause-others
returns-then-letter-lt64-clause-others c = letter_others c.args.word c.args.letter (omega (arith, c.if-letter-lt64.true))

pub returns-else-letter-lt64-clause-kept : goal.returns-else-letter-lt64-clause-kept
returns-else-letter-lt64-clause-kept c = λ k had. had

pub returns-else-letter-lt64-clause-here : goal.returns-else-letter-lt64-clause-here
returns-else-letter-lt64-clause-here c = λ small. absurd (omega (arith, small, c.if-letter-lt64.false))

pub returns-else-letter-lt64-clause-others : goal.returns-else-letter-lt64-clause-others
returns-else-letter-lt64-clause-others c = λ k had. inl had
