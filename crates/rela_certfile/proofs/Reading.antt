-- A certificate that goes on where items end.
use Rattle.std.proofs.Common.{◌≡◌, ℕ, ◌+◌, ◌^◌, ◌<◌, ◌≤◌, ◌⊎◌, inl, inr, suc, Option, None, Some, List, [], ◌∷◌, ◌++◌, length, map, codes, refl, sym, ◌∙◌, ap, subst, append_assoc, append-nil, lit<, lit≤, arith}
use Rattle.std.specs.List.{All, flat_map, slice_get}
use Rattle.std.proofs.lemmas.List.{map-append}
use Rattle.std.proofs.lemmas.Option.{get_or_from_slice_get, slice_get_within}
use Rattle.rela_flows.specs.declared.planning.PlannedRow.{PlannedRow}
use Rattle.rela_flows.specs.declared.planning.PlannedRow.TheVariants.{Selected, Unselected}
use Rattle.rela_certfile.specs.declared.rows.Step.{Step}
use Rattle.rela_certfile.specs.declared.rows.ListedRow.{ListedRow}
use Rattle.rela_certfile.specs.declared.item.Item.{Item}
use Rattle.rela_certfile.specs.declared.item.Item.TheVariants.{Word, Complement, Images, Row}
use Rattle.rela_certfile.specs.declared.item.State.{State}
use Rattle.rela_certfile.specs.Breaks.{Begins}
use Rattle.rela_certfile.specs.Layout.{Layout, IsLayout, Shape, HasBounds, shape_at, shape_of}
use Rattle.rela_certfile.specs.Listed.{AreListed}
use Rattle.rela_certfile.specs.Text.{header, last_line, lines_of, row_lines, word_line}
use Rattle.rela_certfile.specs.Items.{item_line, Allowed, after, after_all, with_row, start, Runs}
use Rattle.rela_certfile.proofs.Closing.{Closes, closing, runs_on, runs_from, after_both}
use Rattle.rela_certfile.proofs.ItemLines.{Fits, same_item, never_end}
use Rattle.rela_certfile.proofs.Rests.{Told, told, rest_of, no_steps, AreBlocks, block_lines}
use Rattle.rela_certfile.proofs.Running.{items_of, items_lines, rows_close}

-- the numbers of a state have 32 bits, and its words are at most so many
pub record Small (n : ℕ) (state : State) : Type 0 where
  pub words : state.words ≤ n
  pub bound : state.bound < 2 ^ 32
  pub path_symbols : state.path_symbols < 2 ^ 32
  pub symbols : state.symbols < 2 ^ 32

pub small_fits : (n : ℕ) (state : State) → n ≤ 2 ^ 32 → Small n state → Fits state
small_fits n state few small = record { words = omega (arith, small.words); bound = small.bound; path_symbols = small.path_symbols; symbols = small.symbols }

shape_bounds : (checks : List Shape) (k : ℕ) (shape : Shape) → All HasBounds checks → slice_get checks k ≡ Some shape → HasBounds shape
shape_bounds checks k shape all is = subst HasBounds (get_or_from_slice_get checks k shape shape is) (all k shape (slice_get_within checks k shape is))

planned_bounds : (l : Layout) (row : Option PlannedRow) (shape : Shape) → IsLayout l → shape_of l.checks row ≡ Some shape → HasBounds shape
planned_bounds l None shape is found = cc
planned_bounds l (Some (Selected flow check)) shape is found = shape_bounds l.checks check shape is.bounds found
planned_bounds l (Some (Unselected flow)) shape is found = cc

bounds_at : (l : Layout) (place : ℕ) (shape : Shape) → IsLayout l → shape_at l place ≡ Some shape → HasBounds shape
unfolding shape_at
bounds_at l place shape is found = planned_bounds l (slice_get l.planned place) shape is found

small_row : (n place : ℕ) (state : State) (o : Option Shape) → ((shape : Shape) → o ≡ Some shape → HasBounds shape) → Small n state → Small (suc n) (with_row state place o)
small_row n place state None bounds small = record { words = omega (arith, small.words); bound = small.bound; path_symbols = small.path_symbols; symbols = small.symbols }
small_row n place state (Some shape) bounds small =
    let has : HasBounds shape = bounds shape refl in
    record { words = omega (arith, small.words); bound = lit< tt; path_symbols = has.0; symbols = has.1 }

pub small_after : (l : Layout) (n : ℕ) (state : State) (item : Item) → IsLayout l → Small n state → Small (suc n) (after l state item)
small_after l n state (Word step) is small = record { words = omega (arith, small.words); bound = small.bound; path_symbols = small.path_symbols; symbols = small.symbols }
small_after l n state Complement is small = record { words = omega arith; bound = small.path_symbols; path_symbols = small.path_symbols; symbols = small.symbols }
small_after l n state Images is small = record { words = omega arith; bound = small.symbols; path_symbols = small.path_symbols; symbols = small.symbols }
small_after l n state (Row place) is small = small_row n place state (shape_at l place) (λ shape found. bounds_at l place shape is found) small

pub small_all : (l : Layout) (n : ℕ) (state : State) (items : List Item) → IsLayout l → Small n state → Small (n + length items) (after_all l state items)
small_all l n state [] is small = record { words = omega (arith, small.words); bound = small.bound; path_symbols = small.path_symbols; symbols = small.symbols }
small_all l n state (item ∷ items) is small =
    let rest : Small (suc n + length items) (after_all l (after l state item) items) = small_all l (suc n) (after l state item) items is (small_after l n state item is small) in
    record { words = omega (arith, rest.words); bound = rest.bound; path_symbols = rest.path_symbols; symbols = rest.symbols }

pub small_start : Small 1 start
small_start = record { words = lit≤ tt; bound = lit< tt; path_symbols = lit< tt; symbols = lit< tt }

-- items whose lines begin a certificate are the first of it
pub goes_on : (l : Layout) (n : ℕ) (state : State) (a b : List Item) (more : List (List ℕ)) → IsLayout l → n + length a ≤ 2 ^ 32 → Small n state → Runs l state a → Runs l state b → map (item_line l) a ++ more ≡ map (item_line l) b ++ codes "end" ∷ [] → (c : List Item) × (b ≡ a ++ c) × (more ≡ map (item_line l) c ++ codes "end" ∷ [])
goes_on l n state [] b more is few small first other same = (b, refl, same)
goes_on l n state (i ∷ a) [] more is few small first other same =
    let ended : item_line l i ≡ codes "end" = cc in
    absurd (never_end l state i (small_fits n state (omega arith) small) first.0 ended)
goes_on l n state (i ∷ a) (j ∷ b) more is few small first other same =
    let head : item_line l i ≡ item_line l j = cc in
    let tail : map (item_line l) a ++ more ≡ map (item_line l) b ++ codes "end" ∷ [] = cc in
    let item : i ≡ j = same_item l state i j is (small_fits n state (omega arith) small) first.0 other.0 head in
    let runs : Runs l (after l state i) b = subst (λ k. Runs l (after l state k) b) (sym item) other.1 in
    let rest : (c : List Item) × (b ≡ a ++ c) × (more ≡ map (item_line l) c ++ codes "end" ∷ []) = goes_on l (suc n) (after l state i) a b more is (omega arith) (small_after l n state i is small) first.1 runs tail in
    let back : b ≡ a ++ rest.0 = rest.1 in
    (rest.0, cc, rest.2)

pub no_blocks : (blocks : List (List Step)) → AreBlocks 0 0 0 blocks → blocks ≡ []
no_blocks [] none = refl
no_blocks (b ∷ []) none = let some : 0 ≡ 1 = none.0 in absurd (omega arith)
no_blocks (b ∷ c ∷ bs) none = let some : 1 < 0 = none.0 in absurd (omega (arith, some))

pub record Tells (l : Layout) (items : List Item) (rows : List ListedRow) : Type 0 where
  pub listed : AreListed l rows
  pub lines : map (item_line l) items ≡ flat_map (row_lines l) rows

-- items that close tell rows
pub tells : (l : Layout) (items : List Item) → Closes l start items → Tells l items (rest_of items).rows
tells l items closes =
    let t : Told l start items (rest_of items) = told l start items closes.runs closes.whole in
    let steps : (rest_of items).steps ≡ [] = no_steps 1 (rest_of items).steps t.steps in
    let blocks : (rest_of items).blocks ≡ [] = no_blocks (rest_of items).blocks t.blocks in
    record {
      listed = t.rows;
      lines = t.lines
          ∙ ap (λ s. map word_line s ++ (block_lines (rest_of items).blocks ++ flat_map (row_lines l) (rest_of items).rows)) steps
          ∙ ap (λ bs. block_lines bs ++ flat_map (row_lines l) (rest_of items).rows) blocks;
    }

-- the items are those of the listed rows
pub closes_of : (l : Layout) (rows : List ListedRow) → AreListed l rows → Closes l start (items_of rows)
closes_of l rows listed = rows_close l start rows refl listed

pub lines_are : (l : Layout) (rows : List ListedRow) → lines_of l rows ≡ header ∷ (map (item_line l) (items_of rows) ++ last_line ∷ [])
unfolding lines_of
lines_are l rows = ap (λ lines. header ∷ (lines ++ last_line ∷ [])) (sym (items_lines l rows))

-- the lines of items that close
pub whole_lines : (l : Layout) (items : List Item) → Closes l start items → lines_of l (rest_of items).rows ≡ header ∷ (map (item_line l) items ++ last_line ∷ [])
unfolding lines_of
whole_lines l items closes = ap (λ lines. header ∷ (lines ++ last_line ∷ [])) (sym (tells l items closes).lines)

-- what is to be shown of a certificate that goes on where these items end
pub record GoesOn (l : Layout) (items : List Item) (more : List (List ℕ)) : Type 0 where
  pub next : List Item
  pub closes : Closes l start (items ++ next)
  pub lines : more ≡ map (item_line l) next ++ last_line ∷ []

pub goes_on_from : (l : Layout) (items : List Item) (rows : List ListedRow) (more : List (List ℕ)) → IsLayout l → 1 + length items ≤ 2 ^ 32 → Runs l start items → AreListed l rows → lines_of l rows ≡ header ∷ (map (item_line l) items ++ more) → GoesOn l items more
goes_on_from l items rows more is few runs listed same =
    let closes : Closes l start (items_of rows) = closes_of l rows listed in
    let lines : header ∷ (map (item_line l) items ++ more) ≡ header ∷ (map (item_line l) (items_of rows) ++ last_line ∷ []) = sym same ∙ lines_are l rows in
    let tails : map (item_line l) items ++ more ≡ map (item_line l) (items_of rows) ++ last_line ∷ [] = cc in
    let rest : (c : List Item) × (items_of rows ≡ items ++ c) × (more ≡ map (item_line l) c ++ last_line ∷ []) = goes_on l 1 start items (items_of rows) more is few small_start runs closes.runs tails in
    record { next = rest.0; closes = subst (λ is. Closes l start is) rest.1 closes; lines = rest.2 }

-- what may be the next line: the last one, or one that the state allows
abbrev pub MayFollow : Layout → List Item → List ℕ → Type 0
MayFollow l items next =
    ((next ≡ last_line) × ((after_all l start items).heads ≡ 0))
    ⊎ ((item : Item) × (next ≡ item_line l item) × Allowed l (after_all l start items) item)

follows : (l : Layout) (items : List Item) (next : List ℕ) (more : List (List ℕ)) (c : List Item) → Closes l start (items ++ c) → next ∷ more ≡ map (item_line l) c ++ last_line ∷ [] → MayFollow l items next
follows l items next more [] closes same =
    let ended : next ≡ last_line = cc in
    inl (ended, ap (λ s. s.heads) (sym (after_both l start items [])) ∙ closes.whole)
follows l items next more (j ∷ c) closes same =
    let line : next ≡ item_line l j = cc in
    inr (j, line, (runs_from l start items (j ∷ c) closes.runs).0)

pub begins_next : (l : Layout) (items : List Item) (next : List ℕ) → IsLayout l → 1 + length items ≤ 2 ^ 32 → Runs l start items → Begins l ((header ∷ map (item_line l) items) ++ next ∷ []) → MayFollow l items next
begins_next l items next is few runs begins =
    let same : lines_of l begins.rows ≡ header ∷ (map (item_line l) items ++ (next ∷ begins.more)) =
    begins.begun ∙ ap (λ lines. header ∷ lines) (append_assoc (map (item_line l) items) (next ∷ []) begins.more) in
    let on : GoesOn l items (next ∷ begins.more) = goes_on_from l items begins.rows (next ∷ begins.more) is few runs begins.listed same in
    follows l items next begins.more on.next on.closes on.lines

-- whatever was read begins a certificate
pub begins_so_far : (l : Layout) (items : List Item) → Runs l start items → Begins l (header ∷ map (item_line l) items)
begins_so_far l items runs =
    let rest : (c : List Item) × Closes l (after_all l start items) c = closing (after_all l start items).heads l (after_all l start items) refl in
    let whole : Closes l start (items ++ rest.0) = record {
      runs = runs_on l start items rest.0 runs rest.1.runs;
      whole = ap (λ s. s.heads) (after_both l start items rest.0) ∙ rest.1.whole;
    } in
    record {
      rows = (rest_of (items ++ rest.0)).rows;
      more = map (item_line l) rest.0 ++ last_line ∷ [];
      listed = (tells l (items ++ rest.0) whole).listed;
      begun = whole_lines l (items ++ rest.0) whole
          ∙ ap (λ lines. header ∷ (lines ++ last_line ∷ [])) (map-append (item_line l) items rest.0)
          ∙ ap (λ lines. header ∷ lines) (append_assoc (map (item_line l) items) (map (item_line l) rest.0) (last_line ∷ []));
    }

pub begins_nothing : (l : Layout) → Begins l []
begins_nothing l = record { rows = []; more = lines_of l []; listed = tt; begun = refl }

pub begins_whole : (l : Layout) (items : List Item) → Closes l start items → Begins l (header ∷ (map (item_line l) items ++ last_line ∷ []))
begins_whole l items closes = record {
  rows = (rest_of items).rows;
  more = [];
  listed = (tells l items closes).listed;
  begun = whole_lines l items closes ∙ sym (append-nil (header ∷ (map (item_line l) items ++ last_line ∷ [])));
}

-- nothing follows the last line
ends_once : (l : Layout) (items : List Item) (more : List (List ℕ)) (c : List Item) → 1 + length items ≤ 2 ^ 32 → Small 1 start → IsLayout l → Runs l start items → Closes l start (items ++ c) → last_line ∷ more ≡ map (item_line l) c ++ last_line ∷ [] → more ≡ []
ends_once l items more [] few small is runs closes same = cc
ends_once l items more (j ∷ c) few small is runs closes same =
    let line : item_line l j ≡ last_line = cc in
    absurd (never_end l (after_all l start items) j (small_fits (1 + length items) (after_all l start items) few (small_all l 1 start items is small)) (runs_from l start items (j ∷ c) closes.runs).0 line)

pub nothing_follows : (l : Layout) (items : List Item) (next : List ℕ) → IsLayout l → 1 + length items ≤ 2 ^ 32 → Runs l start items → Begins l ((header ∷ (map (item_line l) items ++ last_line ∷ [])) ++ next ∷ []) → ⊥
nothing_follows l items next is few runs begins =
    let same : lines_of l begins.rows ≡ header ∷ (map (item_line l) items ++ (last_line ∷ next ∷ begins.more)) =
    begins.begun
    ∙ ap (λ lines. header ∷ lines) (append_assoc (map (item_line l) items ++ last_line ∷ []) (next ∷ []) begins.more)
    ∙ ap (λ lines. header ∷ lines) (append_assoc (map (item_line l) items) (last_line ∷ []) (next ∷ begins.more)) in
    let on : GoesOn l items (last_line ∷ next ∷ begins.more) = goes_on_from l items begins.rows (last_line ∷ next ∷ begins.more) is few runs begins.listed same in
    let none : next ∷ begins.more ≡ [] = ends_once l items (next ∷ begins.more) on.next few small_start is runs on.closes on.lines in
    cc

-- the items alone are no whole certificate
unended : (l : Layout) (c : List Item) → [] ≡ map (item_line l) c ++ last_line ∷ [] → ⊥
unended l [] same = cc
unended l (j ∷ c) same = cc

pub not_whole : (l : Layout) (items : List Item) (rows : List ListedRow) → IsLayout l → 1 + length items ≤ 2 ^ 32 → Runs l start items → AreListed l rows → lines_of l rows ≡ header ∷ map (item_line l) items → ⊥
not_whole l items rows is few runs listed same =
    let lines : lines_of l rows ≡ header ∷ (map (item_line l) items ++ []) = same ∙ ap (λ lines. header ∷ lines) (sym (append-nil (map (item_line l) items))) in
    let on : GoesOn l items [] = goes_on_from l items rows [] is few runs listed lines in
    unended l on.next on.lines

-- another first line begins none
pub first_line : (l : Layout) (next : List ℕ) → Begins l ([] ++ next ∷ []) → next ≡ header
first_line l next begins =
    let lines : next ∷ begins.more ≡ header ∷ (map (item_line l) (items_of begins.rows) ++ last_line ∷ []) = sym begins.begun ∙ lines_are l begins.rows in
    cc
