use Rattle.std.proofs.Common.{append_assoc}
use Rattle.rela_report.proofs.lines.push_unselected_line.Goals as goal

pub returns-clause-line : goal.returns-clause-line
returns-clause-line c = λ names.
    rw (
      c.in_ok-extend_from_slice-3.ensures.items,
      c.in_ok-extend_from_slice-2.ensures.items,
      c.in_ok-extend_from_slice.ensures.items,
      c.as_bytes.ensures.bytes,
    )
    (simp append_assoc)
