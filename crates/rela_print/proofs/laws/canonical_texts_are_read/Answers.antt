use Rattle.rela_print.proofs.PrintedReadsBack.{reads_back}
use Rattle.rela_print.proofs.laws.canonical_texts_are_read.Goals as goal

pub returns : goal.returns
returns c = reads_back c.canonical_texts_write_their_prefixes.ensures c.grammar_is_unambiguous.ensures
