use Rattle.rela_minimise.specs.Classes.{finality}
use Rattle.rela_minimise.proofs.Alike.{same_truth}
use Rattle.rela_minimise.proofs.passes.is_final.Goals as goal

pub returns : goal.returns
returns g c = same_truth c.is_final.result (finality c.args.dfa.now c.args.q) c.is_final.ensures
