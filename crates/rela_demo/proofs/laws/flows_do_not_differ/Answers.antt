use Rattle.rela_demo.proofs.Pairs.{do_not_differ}
use Rattle.rela_demo.proofs.laws.flows_do_not_differ.Goals as goal

pub returns : goal.returns
returns c = do_not_differ
