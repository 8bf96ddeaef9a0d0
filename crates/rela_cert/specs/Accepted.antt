-- What an audit answers to a text that is a certificate of met rows, with blocks as they are made.
use Rattle.std.specs.Prelude.{◌≡◌, ℕ, List, length}
use Rattle.rela_certfile.specs.declared.rows.ListedRow.{ListedRow}
use Rattle.rela_flows.specs.declared.planning.PlannedRow.{PlannedRow}
use Rattle.rela_cert.specs.Audited.{SomePasses}
use Rattle.rela_cert.specs.Subject.{Subject}
use Rattle.rela_cert.specs.declared.answer.Audit.{Audit}
use Rattle.rela_cert.specs.declared.answer.Audit.TheVariants.{Accepted, Rejected, TooLarge}

-- it accepts these rows, with their number; or the images of one of them have more places than the limit
abbrev pub AcceptsRows : Subject → List PlannedRow → ℕ → List ListedRow → Audit → Type 0
AcceptsRows s planned limit rows (Accepted count) = length rows ≡ count
AcceptsRows s planned limit rows (Rejected line) = ⊥
AcceptsRows s planned limit rows TooLarge = SomePasses s planned limit rows
