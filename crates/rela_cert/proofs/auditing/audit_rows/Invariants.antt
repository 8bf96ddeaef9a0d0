use Rattle.std.proofs.Common.{◌≡◌, ◌<◌, ℕ, Some, length}
use Rattle.std.specs.List.{slice_get}
use Rattle.rela_certfile.specs.declared.rows.ListedRow.{ListedRow}
use Rattle.rela_cert.specs.Audited.{IsMet}
use Rattle.rela_cert.specs.Inputs.{subject_of}
use Rattle.rela_cert.specs.KeptChecks.{AreKept}
use Rattle.rela_cert.specs.Sharing.{AreKnownMet}
use Rattle.rela_cert.proofs.auditing.audit_rows.Given as goal

-- the rows so far are met, and so are those that are known; and what is kept is of its check
abbrev pub invariant-loop-number : goal.invariant-loop-number
invariant-loop-number l = record {
  met : (k : ℕ) (row : ListedRow) → k < l.number → slice_get l.certificate k ≡ Some row
      → IsMet (subject_of l.inputs) l.planning.rows.items row;
  known : AreKnownMet (subject_of l.inputs) (length l.certificate) l.known;
  kept : AreKept (subject_of l.inputs) (length l.certificate) l.kept;
}
