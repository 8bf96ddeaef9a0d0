use Rattle.std.proofs.Common.{append_assoc}
use Rattle.rela_assertions.proofs.texts.push_head.Goals as goal

pub returns : goal.returns
returns c =
    rw (
      c.in_ok-extend_from_slice-7.ensures.items,
      c.in_ok-extend_from_slice-6.ensures.items,
      c.in_ok-extend_from_slice-5.ensures.items,
      c.in_ok-extend_from_slice-4.ensures.items,
      c.in_ok-extend_from_slice-3.ensures.items,
      c.in_ok-extend_from_slice-2.ensures.items,
      c.in_ok-extend_from_slice.ensures.items,
      c.as_bytes.ensures.bytes,
      c.as_bytes-2.ensures.bytes,
      c.value_text.ensures,
    )
    (simp append_assoc)
