-- The rows that a certificate is made of, one after another.
use Rattle.std.proofs.Common.{◌≡◌, ◌∙◌, ℕ, zero, suc, Option, None, Some, List, [], ◌∷◌, length, map, sym, ap, subst}
use Rattle.std.specs.List.{slice_get}
use Rattle.rela_build.specs.PathSets.{Paths}
use Rattle.rela_certfile.specs.Layout.{Layout, Shape, shape_at, shape_of as asked_by}
use Rattle.rela_certfile.specs.Listed.{HasShape, IsListedAs}
use Rattle.rela_certfile.specs.declared.rows.ListedRow.{ListedRow}
use Rattle.rela_flows.specs.declared.planning.PlannedRow.{PlannedRow}
use Rattle.rela_flows.specs.declared.planning.PlannedRow.TheVariants.{Selected, Unselected}
use Rattle.rela_snapshot.specs.declared.pairing.FlowPair.{FlowPair}
use Rattle.rela_translate.specs.Checked.{Checked}
use Rattle.rela_translate.specs.Verdict.{Meets}
use Rattle.rela_cert.specs.Certified.{AreBlocksMade, IsExcused, IsRowMade, MayBeLeftOut}
use Rattle.rela_cert.specs.Subject.{HoldsAt, IsRowOf, Subject, flow_of, layout_of, shape_of}
use Rattle.rela_cert.proofs.ListedRows.{same_some}

mapped_there : {X Y : Type 0} (f : X → Y) (xs : List X) (k : ℕ) (x : X) → slice_get xs k ≡ Some x → slice_get (map f xs) k ≡ Some (f x)
mapped_there f [] k x at = let e : None ≡ Some x = at in absurd (cc)
mapped_there f (y ∷ xs) zero x at = let e : Some y ≡ Some x = at in ap (λ (z : _). Some (f z)) (let same : y ≡ x = cc in same)
mapped_there f (y ∷ xs) (suc k) x at = mapped_there f xs k x at

-- a planned row with a check lists as that check asks
listed_as : (l : Layout) (place flow number : ℕ) (shape : Shape) (row : ListedRow) → slice_get l.planned place ≡ Some (Selected flow number)
    → slice_get l.checks number ≡ Some shape → HasShape shape row → IsListedAs (shape_at l place) row
unfolding shape_at
listed_as l place flow number shape row planned of has =
    subst (λ (found : Option PlannedRow). IsListedAs (asked_by l.checks found) row) (sym planned)
    (subst (λ (found : Option Shape). IsListedAs found row) (sym of) has)

module _ (s : Subject) (planned : List PlannedRow) (place flow number : ℕ) (pair : FlowPair) (check : Checked)
    (planned_as : slice_get planned place ≡ Some (Selected flow number)) (of_flow : slice_get s.pairs flow ≡ Some pair) (of_check : slice_get s.checks number ≡ Some check) where
  is_row : IsRowOf s planned place pair check
  is_row = record { flow = flow; number = number; planned_as = planned_as; of_flow = of_flow; of_check = of_check }

  pub row_made : (row : ListedRow) → row.place ≡ place → HasShape (shape_of (length s.names) check) row
      → Meets check (length s.names) (flow_of s pair check).pre (flow_of s pair check).post → AreBlocksMade (length s.names) row check (flow_of s pair check)
      → IsRowMade s planned place row
  row_made row at has met made = record {
    at = at;
    listed = subst (λ (k : ℕ). IsListedAs (shape_at (layout_of s planned) k) row) (sym at)
        (listed_as (layout_of s planned) place flow number (shape_of (length s.names) check) row planned_as (mapped_there (shape_of (length s.names)) s.checks number check of_check) has);
    met = subst (λ (k : ℕ). HoldsAt s planned k (λ c paths. Meets c (length s.names) paths.pre paths.post)) (sym at) (pair, check, is_row, met);
    made = subst (λ (k : ℕ). HoldsAt s planned k (AreBlocksMade (length s.names) row)) (sym at) (pair, check, is_row, made);
  }

  pub left_out : (limit : ℕ) → IsExcused (length s.names) limit check (flow_of s pair check) → MayBeLeftOut s planned limit place
  left_out limit excused other_pair other_check is =
      let same_row : Selected flow number ≡ Selected is.flow is.number = same_some (slice_get planned place) (Selected flow number) (Selected is.flow is.number) planned_as is.planned_as in
      let same_flow : flow ≡ is.flow = cc in
      let same_number : number ≡ is.number = cc in
      let one : pair ≡ other_pair = same_some (slice_get s.pairs flow) pair other_pair of_flow (subst (λ (k : ℕ). slice_get s.pairs k ≡ Some other_pair) (sym same_flow) is.of_flow) in
      let two : check ≡ other_check = same_some (slice_get s.checks number) check other_check of_check (subst (λ (k : ℕ). slice_get s.checks k ≡ Some other_check) (sym same_number) is.of_check) in
      subst (λ (c : Checked). IsExcused (length s.names) limit c (flow_of s other_pair c)) two
      (subst (λ (p : FlowPair). IsExcused (length s.names) limit check (flow_of s p check)) one excused)

-- a planned row without a check is left out
pub no_check : (s : Subject) (planned : List PlannedRow) (place flow limit : ℕ) → slice_get planned place ≡ Some (Unselected flow) → MayBeLeftOut s planned limit place
no_check s planned place flow limit at pair check is =
    let e : Some (Unselected flow) ≡ Some (Selected is.flow is.number) = sym at ∙ is.planned_as in absurd (cc)

-- what holds of the planned row at a place, by its flow and its check
pub at_row : (s : Subject) (planned : List PlannedRow) (place : ℕ) (P : Checked → Paths → Type 0) (pair : FlowPair) (check : Checked)
    → IsRowOf s planned place pair check → HoldsAt s planned place P → P check (flow_of s pair check)
at_row s planned place P pair check is (other, also, row, holds) =
    let same_row : Selected row.flow row.number ≡ Selected is.flow is.number = same_some (slice_get planned place) (Selected row.flow row.number) (Selected is.flow is.number) row.planned_as is.planned_as in
    let same_flow : row.flow ≡ is.flow = cc in
    let same_number : row.number ≡ is.number = cc in
    let one : other ≡ pair = same_some (slice_get s.pairs is.flow) other pair (subst (λ (k : ℕ). slice_get s.pairs k ≡ Some other) same_flow row.of_flow) is.of_flow in
    let two : also ≡ check = same_some (slice_get s.checks is.number) also check (subst (λ (k : ℕ). slice_get s.checks k ≡ Some also) same_number row.of_check) is.of_check in
    subst (λ (c : Checked). P c (flow_of s pair c)) two (subst (λ (p : FlowPair). P also (flow_of s p also)) one holds)
