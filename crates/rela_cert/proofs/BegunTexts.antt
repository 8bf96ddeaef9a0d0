-- The text of a certificate, row after row of the plan.
use Rattle.std.proofs.Common.{◌≡◌, ℕ, ◌+◌, ◌<◌, ◌≤◌, Some, List, [], ◌∷◌, ◌++◌, inl, inr, length, refl, subst, arith}
use Rattle.std.specs.List.{All}
use Rattle.std.proofs.lemmas.Bool.{cases_lt}
use Rattle.std.proofs.lemmas.List.Elements.{All-nil, All-pop, All-push}
use Rattle.std.proofs.lemmas.Option.{slice_get_within}
use Rattle.rela_certfile.specs.Layout.{Layout}
use Rattle.rela_certfile.specs.Listed.{AreListed}
use Rattle.rela_certfile.specs.Text.{text_begun, text_of}
use Rattle.rela_certfile.specs.declared.rows.ListedRow.{ListedRow}
use Rattle.rela_flows.specs.declared.planning.PlannedRow.{PlannedRow}
use Rattle.rela_cert.specs.Audited.{IsMet}
use Rattle.rela_cert.specs.Certified.{AreBlocksMade, IsBegun, IsCertified, IsRowMade, MayBeLeftOut}
use Rattle.rela_cert.specs.Subject.{HoldsAt, IsPlan, Subject, layout_of}

module _ (s : Subject) (planned : List PlannedRow) (limit : ℕ) where
  abbrev l : Layout
  l = layout_of s planned

  abbrev Begun : ℕ → List ℕ → Type 0
  Begun place text = IsBegun s planned limit place text

  abbrev LeftOut : ℕ → Type 0
  LeftOut place = MayBeLeftOut s planned limit place

  abbrev Made : ListedRow → Type 0
  Made row = HoldsAt s planned row.place (AreBlocksMade (length s.names) row)

  -- no row yet
  pub begin : (text : List ℕ) → text ≡ text_begun l [] → Begun 0 text
  begin text written = record {
    rows = [];
    listed = tt;
    written = written;
    before = All-nil (λ row. row.place < 0);
    rows_made = record { met = All-nil (IsMet s planned); made = All-nil Made };
    excused = λ earlier below. absurd (omega (arith, below));
  }

  module _ (place : ℕ) (text : List ℕ) (begun : Begun place text) where
    earlier_places : All (λ row. row.place < place + 1) begun.rows
    earlier_places k d below = let before = begun.before k d below in omega (arith, before)

    -- the row at the place is left out
    pub without : LeftOut place → Begun (place + 1) text
    without left = record {
      rows = begun.rows;
      listed = begun.listed;
      written = begun.written;
      before = earlier_places;
      rows_made = begun.rows_made;
      excused = λ earlier below none. elim (cases_lt earlier place) [
        | inl less ↦ begun.excused earlier less none
        | inr more ↦ subst LeftOut (let same : place ≡ earlier = omega (arith, below, more) in same) left
      ];
    }

    -- the row at the place is written too
    module _ (row : ListedRow) (made : IsRowMade s planned place row) where
      abbrev more : List ListedRow
      more = begun.rows ++ row ∷ []

      at_last : (P : ListedRow → Type 0) → All P more → All P begun.rows × P row
      at_last P all = All-pop P more begun.rows (Some row) refl all

      pub with : (next : List ℕ) → AreListed l more → next ≡ text_begun l more → Begun (place + 1) next
      with next listed written = record {
        rows = more;
        listed = listed;
        written = written;
        before = All-push (λ r. r.place < place + 1) begun.rows row earlier_places (omega (arith, made.at));
        rows_made = record {
          met = All-push (IsMet s planned) begun.rows row begun.rows_made.met made.met;
          made = All-push Made begun.rows row begun.rows_made.made made.made;
        };
        excused = λ earlier below none.
            let split = at_last (λ r. ¬ (r.place ≡ earlier)) none in
            elim (cases_lt earlier place) [
              | inl less ↦ begun.excused earlier less split.0
              | inr past ↦ absurd (split.1 (omega (arith, below, past, made.at)))
            ];
      }

      pub behind : All (λ r. r.place < row.place) begun.rows
      behind k d below = let before = begun.before k d below in omega (arith, before, made.at)

  -- the text is whole once each place is past
  pub finished : IsPlan s planned → (place : ℕ) (begun text : List ℕ) → length planned ≤ place → Begun place begun
      → ((rows : List ListedRow) → begun ≡ text_begun l rows → text ≡ text_of l rows) → IsCertified s limit text
  finished plan place begun text past is ended = record {
    planned = planned;
    rows = is.rows;
    certificate = record { plan = plan; listed = is.listed; whole = ended is.rows is.written };
    rows_made = is.rows_made;
    excused = λ earlier none pair check row.
        let within = slice_get_within planned earlier _ row.planned_as in
        is.excused earlier (omega (arith, past, within)) none pair check row;
  }
