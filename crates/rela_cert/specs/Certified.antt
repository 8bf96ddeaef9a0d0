-- What a certificate says that is made of what it speaks of.
use Rattle.std.specs.Prelude.{◌≡◌, ℕ, ◌<◌, ◌⊎◌, None, Some, List, [], ◌∷◌, All, length, slice_get}
use Rattle.std.specs.List.{slice_index_or}
use Rattle.rela_blocks.specs.RowBlocks.{symbols_of}
use Rattle.rela_blocks.specs.Scenes.{after_image, before_image, scene}
use Rattle.rela_build.specs.PathSets.{Paths}
use Rattle.rela_certfile.specs.Layout.{shape_at}
use Rattle.rela_certfile.specs.Listed.{AreListed, IsListedAs, words_of}
use Rattle.rela_certfile.specs.Text.{text_begun}
use Rattle.rela_certfile.specs.declared.rows.ListedRow.{ListedRow}
use Rattle.rela_flows.specs.declared.planning.PlannedRow.{PlannedRow}
use Rattle.rela_rir.specs.Limit.{Licensed}
use Rattle.rela_rir.specs.declared.term.PathTerm.{PathTerm}
use Rattle.rela_snapshot.specs.declared.pairing.FlowPair.{FlowPair}
use Rattle.rela_translate.specs.Checked.{Checked}
use Rattle.rela_translate.specs.Verdict.{Offending}
use Rattle.rela_translate.specs.Zones.{path_symbols}
use Rattle.rela_cert.specs.Audited.{IsMet}
use Rattle.rela_cert.specs.Closed.{AreFirst, Closed}
use Rattle.rela_cert.specs.Rows.{images_of, parts_of}
use Rattle.rela_cert.specs.Subject.{HoldsAt, IsCertificate, IsRowOf, Subject, flow_of, layout_of}

-- each block is closed, and has its words in shortlex order of first arrival
pub record AreBlocksMade (locations : ℕ) (row : ListedRow) (check : Checked)
    (paths : Paths) : Type 0 where
  pub complements : (k : ℕ) (part : PathTerm) → slice_get (parts_of check locations) k ≡ Some part →
      Closed (scene check locations paths) (path_symbols locations) (part ∷ [])
      (words_of (slice_index_or row.complements k []))
      × AreFirst (scene check locations paths) (path_symbols locations) (part ∷ [])
      (words_of (slice_index_or row.complements k []))
  pub images : Closed (scene check locations paths) (symbols_of check locations)
      (images_of check locations) (words_of row.images)
  pub first : AreFirst (scene check locations paths) (symbols_of check locations)
      (images_of check locations) (words_of row.images)

-- some word offends against the check, or its images may be left open under the limit
abbrev pub IsExcused : ℕ → ℕ → Checked → Paths → Type 0
IsExcused locations limit check paths =
    ((word : List ℕ) × Offending check locations paths.pre paths.post word)
    ⊎ Licensed (scene check locations paths) None (before_image check locations)
    (after_image check locations) limit

-- a row with a check that is planned at this place is excused
abbrev pub MayBeLeftOut : Subject → List PlannedRow → ℕ → ℕ → Type 0
MayBeLeftOut s planned limit place = (pair : FlowPair) (check : Checked) →
    IsRowOf s planned place pair check →
    IsExcused (length s.names) limit check (flow_of s pair check)

-- the rows are met, and their blocks are as they are made
pub record AreRowsMade (s : Subject) (planned : List PlannedRow)
    (rows : List ListedRow) : Type 0 where
  pub met : All (IsMet s planned) rows
  pub made : All (λ row. HoldsAt s planned row.place (AreBlocksMade (length s.names) row)) rows

-- The text is a certificate. Each row that it lists is met, and its blocks are as they are made; and each planned row
-- with a check that it doesn't list is excused.
pub record IsCertified (s : Subject) (limit : ℕ) (text : List ℕ) : Type 0 where
  pub planned : List PlannedRow
  pub rows : List ListedRow
  pub certificate : IsCertificate s planned rows text
  pub rows_made : AreRowsMade s planned rows
  pub excused : (place : ℕ) → All (λ row. ¬ (row.place ≡ place)) rows →
      MayBeLeftOut s planned limit place

-- the row may be listed for the one that is planned at this place
pub record IsRowMade (s : Subject) (planned : List PlannedRow) (place : ℕ)
    (row : ListedRow) : Type 0 where
  pub at : row.place ≡ place
  pub listed : IsListedAs (shape_at (layout_of s planned) row.place) row
  pub met : IsMet s planned row
  pub made : HoldsAt s planned row.place (AreBlocksMade (length s.names) row)

-- the text of a certificate as far as the planned rows before this place go
pub record IsBegun (s : Subject) (planned : List PlannedRow) (limit place : ℕ)
    (text : List ℕ) : Type 0 where
  pub rows : List ListedRow
  pub listed : AreListed (layout_of s planned) rows
  pub written : text ≡ text_begun (layout_of s planned) rows
  pub before : All (λ row. row.place < place) rows
  pub rows_made : AreRowsMade s planned rows
  pub excused : (earlier : ℕ) → earlier < place → All (λ row. ¬ (row.place ≡ earlier)) rows →
      MayBeLeftOut s planned limit earlier
