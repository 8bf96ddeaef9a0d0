use Rattle.rela_snapshot.proofs.PlainLaws.{dst_kept}
use Rattle.rela_snapshot.proofs.plain_flow.dst_in.Goals as goal

pub returns : goal.returns
returns c = dst_kept _ _ _ _ _ c.as_bytes.ensures.value c.in_ok-text.ensures c.prefix_in.ensures
