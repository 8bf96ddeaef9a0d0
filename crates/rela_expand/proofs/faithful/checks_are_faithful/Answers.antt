use Rattle.rela_expand.proofs.Faithfulness as faithfulness
use Rattle.rela_expand.proofs.faithful.checks_are_faithful.Goals as goal

pub returns : goal.returns
returns c network file checks full is = faithfulness.checks_are_faithful network file checks full is
