-- What is listed under a layout: the flow and the check of a row, its blocks, and how many rows there can be.
use Rattle.std.proofs.Common.{◌≡◌, ◌∙◌, ℕ, ◌+◌, ◌≤◌, List, [], ◌∷◌, ◌++◌, length, get_or, refl, sym, subst, arith, length-append}
use Rattle.std.specs.Prelude.{IsSome}
use Rattle.std.specs.Prelude.{Option, None, Some}
use Rattle.std.specs.List.{flat_map, slice_get}
use Rattle.std.proofs.lemmas.Option.{slice_get-get_or}
use Rattle.rela_certfile.specs.Blocks.{block_at, blocks_of}
use Rattle.rela_certfile.specs.Layout.{Layout, Shape, shape_at, shape_of}
use Rattle.rela_certfile.specs.Listed.{HasShape, IsListedAs}
use Rattle.rela_certfile.specs.Text.{ended, last_line, lines_of, row_lines, text_of}
use Rattle.rela_certfile.specs.declared.rows.ListedRow.{ListedRow}
use Rattle.rela_flows.specs.declared.planning.PlannedRow.{PlannedRow}
use Rattle.rela_flows.specs.declared.planning.PlannedRow.TheVariants.{Selected, Unselected}

-- ---- the row at a place

-- the row is planned for a flow and a check, and has the shape that the check asks
pub record IsListedUnder (l : Layout) (place : ℕ) (row : ListedRow) : Type 0 where
  pub flow : ℕ
  pub check : ℕ
  pub shape : Shape
  pub planned_as : slice_get l.planned place ≡ Some (Selected flow check)
  pub of_check : slice_get l.checks check ≡ Some shape
  pub has : HasShape shape row

under_shape : (l : Layout) (place flow check : ℕ) (row : ListedRow) → slice_get l.planned place ≡ Some (Selected flow check)
    → (found : Option Shape) → slice_get l.checks check ≡ found → IsListedAs found row → IsListedUnder l place row
under_shape l place flow check row planned None of is = absurd is
under_shape l place flow check row planned (Some shape) of is =
    record { flow = flow; check = check; shape = shape; planned_as = planned; of_check = of; has = is }

under_row : (l : Layout) (place : ℕ) (row : ListedRow) (found : Option PlannedRow) → slice_get l.planned place ≡ found → IsListedAs (shape_of l.checks found) row
    → IsListedUnder l place row
under_row l place row None at is = absurd is
under_row l place row (Some (Unselected flow)) at is = absurd is
under_row l place row (Some (Selected flow check)) at is = under_shape l place flow check row at (slice_get l.checks check) refl is

pub listed_under : (l : Layout) (place : ℕ) (row : ListedRow) → IsListedAs (shape_at l place) row → IsListedUnder l place row
unfolding shape_at
listed_under l place row is = under_row l place row (slice_get l.planned place) refl is

pub some_is : {X : Type 0} (o : Option X) (x : X) → o ≡ Some x → IsSome o
some_is o x is = subst IsSome (sym is) refl

pub same_some : {X : Type 0} (o : Option X) (x y : X) → o ≡ Some x → o ≡ Some y → x ≡ y
same_some o x y one two = let e : Some x ≡ Some y = sym one ∙ two in cc

-- ---- its blocks

module _ (rows : List ListedRow) (i : ℕ) (row : ListedRow) (blocks : (k : ℕ) → block_at rows i k ≡ slice_get (blocks_of row) k) where
  count_blocks : length (blocks_of row) ≡ length row.complements + 1
  count_blocks = length-append row.complements (row.images ∷ [])

  -- it has a block for each complement, and one of the images
  pub blocks_there : (k : ℕ) → k ≤ length row.complements → IsSome (block_at rows i k)
  blocks_there k below =
      some_is (block_at rows i k) (get_or (blocks_of row) k [])
      (blocks k ∙ slice_get-get_or (blocks_of row) k [] (omega (arith, below, count_blocks)))

-- ---- as many rows as a text can have

lines_short : (lines : List (List ℕ)) → length lines ≤ length (ended lines)
lines_short [] = omega arith
lines_short (line ∷ lines) =
    let one = length-append line (10 ∷ []) in
    let all = length-append (line ++ 10 ∷ []) (ended lines) in
    let rest = lines_short lines in
    omega (arith, one, all, rest)

row_has_line : (l : Layout) (row : ListedRow) → 1 ≤ length (row_lines l row)
unfolding row_lines
row_has_line l row = omega arith

rows_short : (l : Layout) (rows : List ListedRow) → length rows ≤ length (flat_map (row_lines l) rows)
rows_short l [] = omega arith
rows_short l (row ∷ rows) =
    let one = row_has_line l row in
    let all = length-append (row_lines l row) (flat_map (row_lines l) rows) in
    let rest = rows_short l rows in
    omega (arith, one, all, rest)

pub fewer_rows : (l : Layout) (rows : List ListedRow) → length rows ≤ length (text_of l rows)
unfolding lines_of
fewer_rows l rows =
    let lines = lines_short (lines_of l rows) in
    let parts = length-append (flat_map (row_lines l) rows) (last_line ∷ []) in
    let few = rows_short l rows in
    omega (arith, lines, parts, few)
