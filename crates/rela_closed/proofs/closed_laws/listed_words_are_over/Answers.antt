use Rattle.rela_closed.proofs.ClosedLists.{all_over, has_empty}
use Rattle.rela_closed.proofs.closed_laws.listed_words_are_over.Goals as goal

pub returns-clause-empty : goal.returns-clause-empty
returns-clause-empty c = has_empty

pub returns-clause-over : goal.returns-clause-over
returns-clause-over c = all_over
