use Rattle.std.proofs.Common.{arith}
use Rattle.rela_plan.proofs.FlowBits.{first_bit}
use Rattle.rela_plan.proofs.flow_bits.first_flow.Goals as goal

pub returns-else-flows-eq0-clause-member : goal.returns-else-flows-eq0-clause-member
returns-else-flows-eq0-clause-member c = (first_bit c.args.flows (omega (arith, c.if-flows-eq0.false)) c.ranges.flows.fits).1
