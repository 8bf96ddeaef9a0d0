use Rattle.rela_closed.proofs.ClosedLists.{all_equal, all_included, all_listed}
use Rattle.rela_closed.proofs.closed_laws.closed_lists_decide.Goals as goal

pub returns-clause-listed : goal.returns-clause-listed
returns-clause-listed c = all_listed

pub returns-clause-equal : goal.returns-clause-equal
returns-clause-equal c over a b words closed empty equal word read = all_equal over a b words closed empty equal word read

pub returns-clause-included : goal.returns-clause-included
returns-clause-included c over a b words closed empty included word read = all_included over a b words closed empty included word read
