use Rattle.rela_trans.proofs.ReadLetters.{letters_read, letters_written}
use Rattle.rela_trans.proofs.laws.related_words_have_letters.Goals as goal

pub returns-clause-read : goal.returns-clause-read
returns-clause-read c = letters_read

pub returns-clause-written : goal.returns-clause-written
returns-clause-written c = letters_written
