use Rattle.std.proofs.Common.{arith}
use Rattle.std.proofs.lemmas.Grind.{common_steps}
use Rattle.rela_labels.specs.Apart.{IsLead}
use Rattle.rela_labels.proofs.ReachedSymbols.{each_pushed}
use Rattle.rela_labels.proofs.base.Base.leads.Goals as goal

pub loop-block-preserved : goal.loop-block-preserved
loop-block-preserved c = record {
  len = grind (arith, common_steps);
  each =
      each_pushed (λ b l. IsLead c.args.self.now.blocks.items c.args.apart.now b l) _ _ _ _ c.in_ok-push.ensures.items
      c.loop-block.invariant.len c.loop-block.invariant.each c.lead.ensures;
}
