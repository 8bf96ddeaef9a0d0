use Rattle.rela_snapshot.proofs.PlainLaws.{are_bytes, src_kept}
use Rattle.rela_snapshot.proofs.plain_flow.src_in.Goals as goal

pub returns : goal.returns
returns c =
    let bytes = are_bytes _ _ _ c.bytes_or.ensures.given c.bytes_or.ensures.missing in
    src_kept _ _ _ _ _ _ _ _ c.family_of-family.ensures c.whole_family.ensures bytes c.in_ok-text.ensures c.prefix_in.ensures
