use Rattle.rela_snapshot.proofs.PlainLaws.{plain_named}
use Rattle.rela_snapshot.proofs.plain_flow.flow_of.Goals as goal

pub returns-clause-flow : goal.returns-clause-flow
returns-clause-flow c = plain_named _ _ _ _ _ _ c.in_ok-name.ensures.name c.len-row.ensures.len c.flow_named.ensures.flow
