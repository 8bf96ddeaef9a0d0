use Rattle.rela_plan.proofs.FlowBits.{clear_same, clear_other, clear_smaller}
use Rattle.rela_plan.proofs.flow_bits.without_flow.Goals as goal

pub returns-clause-removed : goal.returns-clause-removed
returns-clause-removed c = clear_same c.args.flows c.args.place c.requires.place

pub returns-clause-others : goal.returns-clause-others
returns-clause-others c = clear_other c.args.flows c.args.place c.requires.place

pub returns-clause-smaller : goal.returns-clause-smaller
returns-clause-smaller c = clear_smaller c.args.flows c.args.place c.requires.place c.requires.member
