use Rattle.std.proofs.Common.{arith, sym, ◌∙◌}
use Rattle.std.proofs.lemmas.Bool.{le-ltb}
use Rattle.rela_labels.proofs.OneWord.{none_above}
use Rattle.rela_labels.proofs.word.is_in_word.Goals as goal

pub returns-else-letter-lt64 : goal.returns-else-letter-lt64
returns-else-letter-lt64 c =
    le-ltb c.args.letter 64 (omega arith) ∙ sym (none_above c.args.word c.args.letter c.ranges.word.fits (omega arith))
