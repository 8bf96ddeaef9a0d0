-- What the answer of an audit says of a text.
use Rattle.std.specs.Prelude.{◌≡◌, ℕ, ◌<◌, ◌⊎◌, List, Some, All, Contains, length, slice_get}
use Rattle.rela_build.specs.PathSets.{Paths}
use Rattle.rela_certfile.specs.Blocks.{head_line}
use Rattle.rela_certfile.specs.Breaks.{BreaksAt}
use Rattle.rela_certfile.specs.Listed.{words_of}
use Rattle.rela_certfile.specs.declared.rows.ListedRow.{ListedRow}
use Rattle.rela_flows.specs.declared.planning.PlannedRow.{PlannedRow}
use Rattle.rela_translate.specs.Checked.{Checked}
use Rattle.rela_translate.specs.Verdict.{Meets}
use Rattle.rela_cert.specs.Rows.{AreImagesClosed, IsOpenAt, MayPass, SomeOffends}
use Rattle.rela_cert.specs.Subject.{HoldsAt, IsCertificate, IsPlan, Subject, layout_of}
use Rattle.rela_cert.specs.declared.answer.Audit.{Audit}
use Rattle.rela_cert.specs.declared.answer.Audit.TheVariants.{Accepted, Rejected, TooLarge}

-- the check of the listed row is met by the paths of its flow
abbrev pub IsMet : Subject → List PlannedRow → ListedRow → Type 0
IsMet s planned row =
    HoldsAt s planned row.place (λ check paths. Meets check (length s.names) paths.pre paths.post)

-- The block k of the row is bad: one of a complement isn't closed, or that of the images, which is the last, isn't
-- closed or has a word that offends.
abbrev pub IsBadBlock : ℕ → ListedRow → ℕ → Checked → Paths → Type 0
IsBadBlock locations row k check paths =
    ((k < length row.complements) × IsOpenAt check locations paths row.complements k)
    ⊎ ((k ≡ length row.complements)
    × ((¬ AreImagesClosed check locations paths (words_of row.images))
    ⊎ SomeOffends check locations paths (words_of row.images)))

-- the line is that of the head of a bad block
pub record IsBadHead (s : Subject) (planned : List PlannedRow) (rows : List ListedRow)
    (line : ℕ) : Type 0 where
  pub place : ℕ
  pub row : ListedRow
  pub block : ℕ
  pub at : slice_get rows place ≡ Some row
  pub bad : HoldsAt s planned row.place (IsBadBlock (length s.names) row block)
  pub head : line ≡ head_line rows place block

-- the images of a listed row have more places than the limit
abbrev pub SomePasses : Subject → List PlannedRow → ℕ → List ListedRow → Type 0
SomePasses s planned limit rows =
    (row : ListedRow) × Contains rows row
    × HoldsAt s planned row.place (λ check paths. MayPass check (length s.names) paths limit)

-- What the answer says of the listed rows. Where they are accepted, it has their number, and the check of each is met;
-- where they are rejected, it has the line of the head of a bad block.
abbrev pub Finds : Subject → List PlannedRow → ℕ → List ListedRow → Audit → Type 0
Finds s planned limit rows (Accepted count) = (length rows ≡ count) × All (IsMet s planned) rows
Finds s planned limit rows (Rejected line) = IsBadHead s planned rows line
Finds s planned limit rows TooLarge = SomePasses s planned limit rows

-- the text is the certificate of rows of the plan of which the answer says this
abbrev pub IsFoundOf : Subject → List PlannedRow → ℕ → List ℕ → Audit → Type 0
IsFoundOf s planned limit text audit =
    (rows : List ListedRow) × IsCertificate s planned rows text × Finds s planned limit rows audit

-- the text is no certificate of rows of the plan, and the answer has the first line that breaks it
abbrev pub IsBrokenOf : Subject → List PlannedRow → List ℕ → Audit → Type 0
IsBrokenOf s planned text audit =
    (line : ℕ) × BreaksAt (layout_of s planned) text line × (audit ≡ Rejected line)

-- what an audit of the text has to answer; a text that breaks at a line is rejected for that line
pub record IsAudited (s : Subject) (limit : ℕ) (text : List ℕ) (audit : Audit) : Type 0 where
  pub planned : List PlannedRow
  pub plan : IsPlan s planned
  pub says : IsFoundOf s planned limit text audit ⊎ IsBrokenOf s planned text audit
  pub broken : (line : ℕ) → BreaksAt (layout_of s planned) text line → audit ≡ Rejected line
