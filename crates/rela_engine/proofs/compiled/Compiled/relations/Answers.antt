use Rattle.rela_engine.proofs.Compilations.{made_lent}
use Rattle.rela_engine.proofs.compiled.Compiled.relations.Goals as goal

pub returns-clause-made : goal.returns-clause-made
returns-clause-made c = made_lent _ c.args.self.now c.self.view_is c.self.invariant.0 c.as_ref.result c.as_ref.ensures.value
