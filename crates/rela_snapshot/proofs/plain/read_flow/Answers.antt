use Rattle.rela_snapshot.proofs.PlainLaws.{plain_kept}
use Rattle.rela_snapshot.proofs.plain.read_flow.Goals as goal

pub returns-clause-flow : goal.returns-clause-flow
returns-clause-flow c = plain_kept _ _ _ _ _ _ _ c.as_slice.ensures.value c.in_ok-members.ensures.members c.flow_of.ensures.flow
