-- The flow and the check of a listed row, and what they ask of its blocks.
use Rattle.std.proofs.Common.{◌≡◌, ◌∙◌, ℕ, zero, suc, ◌<◌, None, Some, List, [], ◌∷◌, length, get_or, map, refl, sym, ap, subst}
use Rattle.std.specs.List.{All, slice_get}
use Rattle.std.specs.Prelude.{option_map}
use Rattle.std.proofs.lemmas.Option.{slice_get-get_or, slice_get_within}
use Rattle.rela_certfile.specs.Layout.{Shape, check_names, shape_at}
use Rattle.rela_certfile.specs.Listed.{HasShape, IsListedAs}
use Rattle.rela_certfile.specs.declared.rows.ListedRow.{ListedRow}
use Rattle.rela_flows.specs.declared.planning.PlannedRow.{PlannedRow}
use Rattle.rela_flows.specs.declared.planning.PlannedRow.TheVariants.{Selected}
use Rattle.rela_plan.specs.Within.{IsWithin}
use Rattle.rela_translate.specs.Checked.{Checked as Check}
use Rattle.rela_cert.specs.Subject.{Subject, layout_of, shape_of}
use Rattle.rela_cert.proofs.ListedRows.{IsListedUnder, listed_under, same_some}

pub mapped_at : {X Y : Type 0} (f : X → Y) (xs : List X) (k : ℕ) (y : Y) → slice_get (map f xs) k ≡ Some y → (x : X) × (slice_get xs k ≡ Some x) × (f x ≡ y)
mapped_at f [] k y at = let e : None ≡ Some y = at in absurd (cc)
mapped_at f (x ∷ xs) zero y at = (x, refl, (let e : Some (f x) ≡ Some y = at in cc))
mapped_at f (x ∷ xs) (suc k) y at = mapped_at f xs k y at

-- what is read at a place that a list has
pub read_at : {X : Type 0} (xs : List X) (k : ℕ) (x : X) → k < length xs → x ≡ get_or xs k x → slice_get xs k ≡ Some x
read_at xs k x below is = slice_get-get_or xs k x below ∙ ap (λ (y : _). Some y) (sym is)

some_row : ListedRow
some_row = record { place = 0; complements = []; images = [] }

pub row_there : (rows : List ListedRow) (i : ℕ) → i < length rows → (row : ListedRow) × (slice_get rows i ≡ Some row)
row_there rows i below = (get_or rows i some_row, slice_get-get_or rows i some_row below)

-- what is told of the row at a place, the row there has
pub map_at : {X : Type 0} (f : ListedRow → X) (rows : List ListedRow) (i : ℕ) (row : ListedRow) (x : X) → slice_get rows i ≡ Some row
    → option_map f (slice_get rows i) ≡ Some x → f row ≡ x
map_at f rows i row x at told = let e : Some (f row) ≡ Some x = sym (ap (option_map f) at) ∙ told in cc

pub place_is : (rows : List ListedRow) (i : ℕ) (row : ListedRow) (place : ℕ) → slice_get rows i ≡ Some row
    → option_map (λ listed. listed.place) (slice_get rows i) ≡ Some place → place ≡ row.place
place_is rows i row place at told =
    sym (map_at (λ listed. listed.place) rows i row place at told)

module _ (s : Subject) (planned : List PlannedRow) (row : ListedRow) (listed : IsListedAs (shape_at (layout_of s planned) row.place) row) where
  abbrev under : IsListedUnder (layout_of s planned) row.place row
  under = listed_under (layout_of s planned) row.place row listed

  -- the row that is planned at its place is of a flow and a check
  pub planned_there : (flow : ℕ) × (check : ℕ) × (slice_get planned row.place ≡ Some (Selected flow check))
  planned_there = (under.flow, under.check, under.planned_as)

  module _ (flow number : ℕ) (is : slice_get planned row.place ≡ Some (Selected flow number)) where
    same_number : under.check ≡ number
    same_number = let e : Selected under.flow under.check ≡ Selected flow number = same_some (slice_get planned row.place) _ _ under.planned_as is in cc

    pub has_shape : (check : Check) → slice_get s.checks number ≡ Some check → HasShape (shape_of (length s.names) check) row
    has_shape check of =
        let found = mapped_at (shape_of (length s.names)) s.checks under.check under.shape under.of_check in
        let same : found.0 ≡ check = same_some (slice_get s.checks number) found.0 check (subst (λ (k : ℕ). slice_get s.checks k ≡ Some found.0) same_number found.1) of in
        subst (λ (c : Check). HasShape (shape_of (length s.names) c) row) same (subst (λ (x : Shape). HasShape x row) (sym found.2) under.has)

-- the flow and the check of a planned row are among those that there are
pub within_there : (s : Subject) (planned : List PlannedRow) → All (IsWithin (length s.pairs) (length s.checks)) planned → (place flow number : ℕ)
    → slice_get planned place ≡ Some (Selected flow number) → (flow < length s.pairs) × (number < length s.checks)
within_there s planned within place flow number is =
    let row : PlannedRow = Selected flow number in
    let read : get_or planned place row ≡ row = let e : Some (get_or planned place row) ≡ Some row = sym (slice_get-get_or planned place row (slice_get_within planned place row is)) ∙ is in cc in
    subst (IsWithin (length s.pairs) (length s.checks)) read (within place row (slice_get_within planned place row is))

-- what the checks ask has their names
pub names_of_shapes : (n : ℕ) (checks : List Check) → check_names (map (shape_of n) checks) ≡ map (λ check. check.name) checks
names_of_shapes n [] = refl
names_of_shapes n (check ∷ checks) = ap (λ (names : List (List ℕ)). check.name ∷ names) (names_of_shapes n checks)
