-- The items of listed rows.
use Rattle.std.proofs.Common.{◌≡◌, ℕ, ◌+◌, ◌-◌, ◌≤◌, Option, None, Some, IsSome, List, [], ◌∷◌, ◌++◌, length, map, codes, refl, sym, ◌∙◌, ap, subst, append_assoc, arith}
use Rattle.std.specs.List.{AllByRecursion, flat_map}
use Rattle.std.proofs.lemmas.List.{map-append}
use Rattle.rela_certfile.specs.declared.rows.Step.{Step}
use Rattle.rela_certfile.specs.declared.rows.ListedRow.{ListedRow}
use Rattle.rela_certfile.specs.declared.item.Item.{Item}
use Rattle.rela_certfile.specs.declared.item.Item.TheVariants.{Word, Complement, Images, Row}
use Rattle.rela_certfile.specs.declared.item.State.{State}
use Rattle.rela_certfile.specs.Blocks.{fronts, last_of}
use Rattle.rela_certfile.specs.Layout.{Layout, Shape, shape_at, row_line}
use Rattle.rela_certfile.specs.Listed.{AreSteps, IsBlock, IsListedAs, AreListedFrom}
use Rattle.rela_certfile.specs.Text.{word_line, complement_lines, images_lines, row_lines}
use Rattle.rela_certfile.specs.Items.{item_line, Allowed, after, with_row}
use Rattle.rela_certfile.proofs.Closing.{Closes}
use Rattle.rela_certfile.proofs.Rests.{before, rest_of}

-- the lines of a row's blocks
abbrev pub block_items : List (List Step) → List Step → List Item
block_items [] images = Images ∷ map Word images
block_items (b ∷ bs) images = Complement ∷ (map Word b ++ block_items bs images)

abbrev pub row_items : ListedRow → List Item
row_items row = Row row.place ∷ block_items row.complements row.images

abbrev pub items_of : List ListedRow → List Item
items_of rows = flat_map row_items rows

next : (l : Layout) (state : State) (item : Item) (items : List Item) → Allowed l state item → Closes l (after l state item) items → Closes l state (item ∷ items)
next l state item items allowed closes = record { runs = (allowed, closes.runs); whole = closes.whole }

steps_close : (l : Layout) (state : State) (steps : List Step) (more : List Item) → AreSteps state.words state.bound steps → ((words : ℕ) → Closes l (record state { words = words }) more) → Closes l state (map Word steps ++ more)
steps_close l state [] more are closes = closes state.words
steps_close l state (step ∷ steps) more are closes =
    next l state (Word step) (map Word steps ++ more) (are.0, are.1)
    (steps_close l (after l state (Word step)) steps more are.2 closes)

-- the blocks of a row, where so many complements are left
blocks_close : (l : Layout) (state : State) (complements : List (List Step)) (images : List Step) (more : List Item) → state.heads ≡ length complements + 1 → AllByRecursion (IsBlock state.path_symbols) complements → IsBlock state.symbols images → ((words : ℕ) → Closes l (record state { heads = 0; bound = state.symbols; words = words }) more) → Closes l state (block_items complements images ++ more)
blocks_close l state [] images more count are last closes =
    next l state Images (map Word images ++ more) count
    (steps_close l (after l state Images) images more last closes)
blocks_close l state (b ∷ bs) images more count are last closes =
    subst (λ items. Closes l state (Complement ∷ items)) (sym (append_assoc (map Word b) (block_items bs images) more))
    (next l state Complement (map Word b ++ (block_items bs images ++ more)) (omega arith)
    (steps_close l (after l state Complement) b (block_items bs images ++ more) are.0
    (λ words. blocks_close l (record state { heads = state.heads - 1; words = words; bound = state.path_symbols }) bs images more (omega arith) are.1 last closes)))

row_close : (l : Layout) (state : State) (row : ListedRow) (more : List Item) (o : Option Shape) → shape_at l row.place ≡ o → state.heads ≡ 0 → state.next ≤ row.place → IsListedAs o row → ((s : State) → s.heads ≡ 0 → s.next ≡ row.place + 1 → Closes l s more) → Closes l state (row_items row ++ more)
row_close l state row more None is none from listed closes = absurd listed
row_close l state row more (Some shape) is none from listed closes =
    let allowed : Allowed l state (Row row.place) = (none, from, subst (λ o. IsSome o) (sym is) refl) in
    let begun : State = with_row state row.place (Some shape) in
    let same : begun ≡ after l state (Row row.place) = ap (λ o. with_row state row.place o) (sym is) in
    let count : length row.complements ≡ shape.complements = listed.one_each in
    next l state (Row row.place) (block_items row.complements row.images ++ more) allowed
    (subst (λ s. Closes l s (block_items row.complements row.images ++ more)) same
    (blocks_close l begun row.complements row.images more (omega arith) listed.complements listed.images
    (λ words. closes (record begun { heads = 0; bound = begun.symbols; words = words }) refl refl)))

-- listed rows are items that run to an end
pub rows_close : (l : Layout) (state : State) (rows : List ListedRow) → state.heads ≡ 0 → AreListedFrom l state.next rows → Closes l state (items_of rows)
rows_close l state [] none are = record { runs = tt; whole = none }
rows_close l state (row ∷ rows) none are =
    row_close l state row (items_of rows) (shape_at l row.place) refl none are.0 are.1
    (λ s ended at. rows_close l s rows ended (subst (λ k. AreListedFrom l k rows) (sym at) are.2))

words_lines : (l : Layout) (steps : List Step) → map (item_line l) (map Word steps) ≡ map word_line steps
words_lines l [] = refl
words_lines l (step ∷ steps) = ap (λ more. word_line step ∷ more) (words_lines l steps)

block_items_lines : (l : Layout) (complements : List (List Step)) (images : List Step) → map (item_line l) (block_items complements images) ≡ flat_map complement_lines complements ++ images_lines images
block_items_lines l [] images = ap (λ more. codes "images" ∷ more) (words_lines l images)
block_items_lines l (b ∷ bs) images =
    ap (λ more. codes "complement" ∷ more)
    (map-append (item_line l) (map Word b) (block_items bs images)
    ∙ ap (λ more. more ++ map (item_line l) (block_items bs images)) (words_lines l b)
    ∙ ap (λ more. map word_line b ++ more) (block_items_lines l bs images)
    ∙ sym (append_assoc (map word_line b) (flat_map complement_lines bs) (images_lines images)))

row_items_lines : (l : Layout) (row : ListedRow) → map (item_line l) (row_items row) ≡ row_lines l row
unfolding row_lines
row_items_lines l row = ap (λ more. row_line l row.place ∷ more) (block_items_lines l row.complements row.images)

-- and their lines are those of the rows
pub items_lines : (l : Layout) (rows : List ListedRow) → map (item_line l) (items_of rows) ≡ flat_map (row_lines l) rows
items_lines l [] = refl
items_lines l (row ∷ rows) =
    map-append (item_line l) (row_items row) (items_of rows)
    ∙ ap (λ more. more ++ map (item_line l) (items_of rows)) (row_items_lines l row)
    ∙ ap (λ more. row_lines l row ++ more) (items_lines l rows)

steps_again : (steps : List Step) (more : List Item) → (rest_of more).steps ≡ [] → rest_of (map Word steps ++ more) ≡ record { steps = steps; blocks = (rest_of more).blocks; rows = (rest_of more).rows }
steps_again [] more none = ap (λ s. record { steps = s; blocks = (rest_of more).blocks; rows = (rest_of more).rows }) none
steps_again (step ∷ steps) more none = ap (λ r. before (Word step) r) (steps_again steps more none)

blocks_again : (complements : List (List Step)) (images : List Step) (more : List Item) → (rest_of more).steps ≡ [] → (rest_of more).blocks ≡ [] → rest_of (block_items complements images ++ more) ≡ record { steps = []; blocks = complements ++ images ∷ []; rows = (rest_of more).rows }
blocks_again [] images more none blank =
    ap (λ r. before Images r) (steps_again images more none)
    ∙ ap (λ bs. record { steps = []; blocks = images ∷ bs; rows = (rest_of more).rows }) blank
blocks_again (b ∷ bs) images more none blank =
    let inner : rest_of (block_items bs images ++ more) ≡ record { steps = []; blocks = bs ++ images ∷ []; rows = (rest_of more).rows } = blocks_again bs images more none blank in
    ap (λ items. before Complement (rest_of items)) (append_assoc (map Word b) (block_items bs images) more)
    ∙ ap (λ r. before Complement r) (steps_again b (block_items bs images ++ more) (ap (λ r. r.steps) inner))
    ∙ ap (λ r. record { steps = []; blocks = b ∷ r.blocks; rows = r.rows }) inner

pub fronts_again : (bs : List (List Step)) (b : List Step) → fronts (bs ++ b ∷ []) ≡ bs
fronts_again [] b = refl
fronts_again (c ∷ []) b = refl
fronts_again (c ∷ d ∷ bs) b = ap (λ more. c ∷ more) (fronts_again (d ∷ bs) b)

pub last_again : (bs : List (List Step)) (b : List Step) → last_of (bs ++ b ∷ []) ≡ b
last_again [] b = refl
last_again (c ∷ []) b = refl
last_again (c ∷ d ∷ bs) b = last_again (d ∷ bs) b

-- the items of rows tell these rows
pub rows_again : (rows : List ListedRow) → rest_of (items_of rows) ≡ record { steps = []; blocks = []; rows = rows }
rows_again [] = refl
rows_again (row ∷ rows) =
    let inner : rest_of (items_of rows) ≡ record { steps = []; blocks = []; rows = rows } = rows_again rows in
    let whole : rest_of (block_items row.complements row.images ++ items_of rows) ≡ record { steps = []; blocks = row.complements ++ row.images ∷ []; rows = (rest_of (items_of rows)).rows } =
    blocks_again row.complements row.images (items_of rows) (ap (λ r. r.steps) inner) (ap (λ r. r.blocks) inner) in
    ap (λ r. before (Row row.place) r) whole
    ∙ ap (λ more. record { steps = []; blocks = []; rows = record { place = row.place; complements = fronts (row.complements ++ row.images ∷ []); images = last_of (row.complements ++ row.images ∷ []) } ∷ more }) (ap (λ r. r.rows) inner)
    ∙ ap (λ cs. record { steps = []; blocks = []; rows = record { place = row.place; complements = cs; images = last_of (row.complements ++ row.images ∷ []) } ∷ rows }) (fronts_again row.complements row.images)
    ∙ ap (λ b. record { steps = []; blocks = []; rows = record { place = row.place; complements = row.complements; images = b } ∷ rows }) (last_again row.complements row.images)
