-- What a list of items says, told from its end: the rest of the open block, the further blocks of the row, and the further
-- rows.
use Rattle.std.proofs.Common.{◌≡◌, ℕ, ◌+◌, ◌-◌, ◌<◌, ◌≤◌, Option, None, Some, IsSome, List, [], ◌∷◌, ◌++◌, length, map, codes, refl, sym, ◌∙◌, ap, subst, append_assoc, arith}
use Rattle.std.specs.List.{AllByRecursion, flat_map}
use Rattle.rela_certfile.specs.declared.rows.Step.{Step}
use Rattle.rela_certfile.specs.declared.rows.ListedRow.{ListedRow}
use Rattle.rela_certfile.specs.declared.item.Item.{Item}
use Rattle.rela_certfile.specs.declared.item.Item.TheVariants.{Word, Complement, Images, Row}
use Rattle.rela_certfile.specs.declared.item.State.{State}
use Rattle.rela_certfile.specs.Blocks.{fronts, last_of, row_of}
use Rattle.rela_certfile.specs.Layout.{Layout, Shape, shape_at, row_line}
use Rattle.rela_certfile.specs.Listed.{AreSteps, IsBlock, HasShape, IsListedAs, AreListedFrom}
use Rattle.rela_certfile.specs.Text.{word_line, complement_lines, images_lines, row_lines}
use Rattle.rela_certfile.specs.Items.{item_line, Allowed, after, after_all, with_row, Runs}

pub record Rest : Type 0 where
  pub steps : List Step
  pub blocks : List (List Step)
  pub rows : List ListedRow

abbrev pub before : Item → Rest → Rest
before (Word step) r = record { steps = step ∷ r.steps; blocks = r.blocks; rows = r.rows }
before Complement r = record { steps = []; blocks = r.steps ∷ r.blocks; rows = r.rows }
before Images r = record { steps = []; blocks = r.steps ∷ r.blocks; rows = r.rows }
before (Row place) r = record { steps = []; blocks = []; rows = row_of place r.blocks ∷ r.rows }

abbrev pub rest_of : List Item → Rest
rest_of [] = record { steps = []; blocks = []; rows = [] }
rest_of (item ∷ items) = before item (rest_of items)

-- the last block is that of the images
abbrev pub AreBlocks : ℕ → ℕ → ℕ → List (List Step) → Type 0
AreBlocks paths symbols heads [] = heads ≡ 0
AreBlocks paths symbols heads (b ∷ []) = (heads ≡ 1) × IsBlock symbols b
AreBlocks paths symbols heads (b ∷ c ∷ bs) =
    (1 < heads) × IsBlock paths b × AreBlocks paths symbols (heads - 1) (c ∷ bs)

abbrev pub block_lines : List (List Step) → List (List ℕ)
block_lines [] = []
block_lines (b ∷ []) = images_lines b
block_lines (b ∷ c ∷ bs) = complement_lines b ++ block_lines (c ∷ bs)

-- the rest is as the state asks, and the items are its lines
pub record Told (l : Layout) (state : State) (items : List Item) (r : Rest) : Type 0 where
  pub steps : AreSteps state.words state.bound r.steps
  pub blocks : AreBlocks state.path_symbols state.symbols state.heads r.blocks
  pub rows : AreListedFrom l state.next r.rows
  pub lines : map (item_line l) items
      ≡ map word_line r.steps ++ (block_lines r.blocks ++ flat_map (row_lines l) r.rows)

-- no word continues one, where no block is open
pub no_steps : (words : ℕ) (steps : List Step) → AreSteps words 0 steps → steps ≡ []
no_steps words [] none = refl
no_steps words (step ∷ steps) some = let below : step.symbol < 0 = some.1 in absurd (omega arith)

-- the blocks of a row, split again
pub blocks_split : (paths symbols n : ℕ) (blocks : List (List Step)) → AreBlocks paths symbols (n + 1) blocks → fronts blocks ++ last_of blocks ∷ [] ≡ blocks
blocks_split paths symbols n [] are = absurd (omega arith)
blocks_split paths symbols n (b ∷ []) are = refl
blocks_split paths symbols n (b ∷ c ∷ bs) are =
    let fewer : AreBlocks paths symbols ((n - 1) + 1) (c ∷ bs) = subst (λ k. AreBlocks paths symbols k (c ∷ bs)) (let same : (n + 1) - 1 ≡ (n - 1) + 1 = (let more : 1 < n + 1 = are.0 in omega arith) in same) are.2 in
    ap (λ more. b ∷ more) (blocks_split paths symbols (n - 1) (c ∷ bs) fewer)

blocks_shape : (shape : Shape) (place n : ℕ) (blocks : List (List Step)) → AreBlocks shape.path_symbols shape.symbols (n + 1) blocks → (length (fronts blocks) ≡ n) × AllByRecursion (IsBlock shape.path_symbols) (fronts blocks) × IsBlock shape.symbols (last_of blocks)
blocks_shape shape place n [] are = absurd (omega arith)
blocks_shape shape place n (b ∷ []) are = (let none : n + 1 ≡ 1 = are.0 in omega arith, tt, are.1)
blocks_shape shape place n (b ∷ c ∷ bs) are =
    let more : 1 < n + 1 = are.0 in
    let fewer : AreBlocks shape.path_symbols shape.symbols ((n - 1) + 1) (c ∷ bs) = subst (λ k. AreBlocks shape.path_symbols shape.symbols k (c ∷ bs)) (let same : (n + 1) - 1 ≡ (n - 1) + 1 = omega arith in same) are.2 in
    let rest : (length (fronts (c ∷ bs)) ≡ n - 1) × AllByRecursion (IsBlock shape.path_symbols) (fronts (c ∷ bs)) × IsBlock shape.symbols (last_of (c ∷ bs)) = blocks_shape shape place (n - 1) (c ∷ bs) fewer in
    let count : length (fronts (c ∷ bs)) ≡ n - 1 = rest.0 in
    (omega arith, (are.1, rest.1), rest.2)

-- the lines of blocks are those of the complements and of the images
blocks_lines : (b : List Step) (bs : List (List Step)) → block_lines (b ∷ bs) ≡ flat_map complement_lines (fronts (b ∷ bs)) ++ images_lines (last_of (b ∷ bs))
blocks_lines b [] = refl
blocks_lines b (c ∷ bs) =
    ap (λ more. complement_lines b ++ more) (blocks_lines c bs)
    ∙ sym (append_assoc (complement_lines b) (flat_map complement_lines (fronts (c ∷ bs))) (images_lines (last_of (c ∷ bs))))

told_word : (l : Layout) (state : State) (step : Step) (items : List Item) (r : Rest) → Allowed l state (Word step) → Told l (after l state (Word step)) items r → Told l state (Word step ∷ items) (before (Word step) r)
told_word l state step items r allowed told = record {
  steps = (allowed.0, allowed.1, told.steps);
  blocks = told.blocks;
  rows = told.rows;
  lines = ap (λ more. word_line step ∷ more) told.lines;
}

told_complement : (l : Layout) (state : State) (items : List Item) (steps : List Step) (blocks : List (List Step)) (rows : List ListedRow) → 1 < state.heads → Told l (after l state Complement) items (record { steps = steps; blocks = blocks; rows = rows }) → Told l state (Complement ∷ items) (before Complement (record { steps = steps; blocks = blocks; rows = rows }))
told_complement l state items steps [] rows more told =
    let none : state.heads - 1 ≡ 0 = told.blocks in absurd (omega arith)
told_complement l state items steps (c ∷ bs) rows more told = record {
  steps = tt;
  blocks = (more, told.steps, told.blocks);
  rows = told.rows;
  lines = ap (λ lines. codes "complement" ∷ lines) told.lines
      ∙ ap (λ lines. codes "complement" ∷ lines) (sym (append_assoc (map word_line steps) (block_lines (c ∷ bs)) (flat_map (row_lines l) rows)));
}

told_images : (l : Layout) (state : State) (items : List Item) (steps : List Step) (blocks : List (List Step)) (rows : List ListedRow) → state.heads ≡ 1 → Told l (after l state Images) items (record { steps = steps; blocks = blocks; rows = rows }) → Told l state (Images ∷ items) (before Images (record { steps = steps; blocks = blocks; rows = rows }))
told_images l state items steps [] rows one told = record {
  steps = tt;
  blocks = (one, told.steps);
  rows = told.rows;
  lines = ap (λ lines. codes "images" ∷ lines) told.lines;
}
told_images l state items steps (b ∷ []) rows one told = let some : 0 ≡ 1 = told.blocks.0 in absurd (omega arith)
told_images l state items steps (b ∷ c ∷ bs) rows one told = let some : 1 < 0 = told.blocks.0 in absurd (omega (arith, some))

-- the lines of a row that begins, by its blocks
row_begins : (l : Layout) (place : ℕ) (items : List Item) (shape : Shape) (steps : List Step) (blocks : List (List Step)) (rows : List ListedRow) → AreSteps 0 0 [] → steps ≡ [] → AreBlocks shape.path_symbols shape.symbols (shape.complements + 1) blocks → map (item_line l) items ≡ map word_line steps ++ (block_lines blocks ++ flat_map (row_lines l) rows) → map (item_line l) (Row place ∷ items) ≡ flat_map (row_lines l) (row_of place blocks ∷ rows)
unfolding row_lines
row_begins l place items shape steps [] rows _ none are lines = let some : shape.complements + 1 ≡ 0 = are in absurd (omega arith)
row_begins l place items shape steps (b ∷ bs) rows _ none are lines =
    ap (λ more. row_line l place ∷ more)
    (lines ∙ ap (λ s. map word_line s ++ (block_lines (b ∷ bs) ++ flat_map (row_lines l) rows)) none
    ∙ ap (λ more. more ++ flat_map (row_lines l) rows) (blocks_lines b bs))

told_row : (l : Layout) (state : State) (place : ℕ) (items : List Item) (r : Rest) (o : Option Shape) → shape_at l place ≡ o → IsSome o → state.heads ≡ 0 → state.next ≤ place → Told l (with_row state place o) items r → Told l state (Row place ∷ items) (before (Row place) r)
told_row l state place items r None is some none from told = cc
told_row l state place items r (Some shape) is some none from told =
    let shaped : (length (fronts r.blocks) ≡ shape.complements) × AllByRecursion (IsBlock shape.path_symbols) (fronts r.blocks) × IsBlock shape.symbols (last_of r.blocks) = blocks_shape shape place shape.complements r.blocks told.blocks in
    let listed : HasShape shape (row_of place r.blocks) = record { one_each = shaped.0; complements = shaped.1; images = shaped.2 } in
    record {
      steps = tt;
      blocks = none;
      rows = (from, subst (λ p. IsListedAs p (row_of place r.blocks)) (sym is) listed, told.rows);
      lines = row_begins l place items shape r.steps r.blocks r.rows tt (no_steps state.words r.steps told.steps) told.blocks told.lines;
    }

-- items that run to where no block is missing tell rows
pub told : (l : Layout) (state : State) (items : List Item) → Runs l state items → (after_all l state items).heads ≡ 0 → Told l state items (rest_of items)
told l state [] runs whole = record { steps = tt; blocks = whole; rows = tt; lines = refl }
told l state (Word step ∷ items) runs whole = told_word l state step items (rest_of items) runs.0 (told l (after l state (Word step)) items runs.1 whole)
told l state (Complement ∷ items) runs whole = told_complement l state items (rest_of items).steps (rest_of items).blocks (rest_of items).rows runs.0 (told l (after l state Complement) items runs.1 whole)
told l state (Images ∷ items) runs whole = told_images l state items (rest_of items).steps (rest_of items).blocks (rest_of items).rows runs.0 (told l (after l state Images) items runs.1 whole)
told l state (Row place ∷ items) runs whole = told_row l state place items (rest_of items) (shape_at l place) refl runs.0.2 runs.0.0 runs.0.1 (told l (after l state (Row place)) items runs.1 whole)
