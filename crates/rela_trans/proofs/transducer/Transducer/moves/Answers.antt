use Rattle.std.proofs.Common.{subst, arith}
use Rattle.std.proofs.lemmas.Grind.{common_steps}
use Rattle.rela_trans.specs.Machine.{IsMachine}
use Rattle.rela_trans.proofs.Accessors.{moves_lead, moves_sized}
use Rattle.rela_trans.proofs.transducer.Transducer.moves.Goals as goal

pub returns-clause-lead : goal.returns-clause-lead
returns-clause-lead g c =
    moves_lead g.L.LabelSet.letters c.args.self.now (subst IsMachine c.self.view_is c.self.invariant.1) c.args.q c.as_slice.result.now (grind (arith, common_steps))

pub returns-clause-sized : goal.returns-clause-sized
returns-clause-sized g c =
    moves_sized g.L.LabelSet.letters c.args.self.now (subst IsMachine c.self.view_is c.self.invariant.1) c.args.q c.as_slice.result.now (grind (arith, common_steps))
