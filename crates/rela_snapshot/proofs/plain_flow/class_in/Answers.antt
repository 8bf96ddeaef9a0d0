use Rattle.rela_snapshot.proofs.PlainLaws.{are_bytes, class_kept}
use Rattle.rela_snapshot.proofs.plain_flow.class_in.Goals as goal

pub returns : goal.returns
returns c =
    let bytes = are_bytes _ _ _ c.bytes_or.ensures.given c.bytes_or.ensures.missing in
    class_kept _ _ _ _ _ bytes c.in_ok-text.ensures c.class_name.ensures
