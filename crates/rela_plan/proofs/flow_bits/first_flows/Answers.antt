use Rattle.rela_plan.proofs.FlowBits.{first_bits}
use Rattle.rela_plan.proofs.flow_bits.first_flows.Goals as goal

pub returns-else-count-eq0 : goal.returns-else-count-eq0
returns-else-count-eq0 c = first_bits c.args.count c.requires
