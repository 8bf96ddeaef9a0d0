-- The lines of listed rows one by one: what each says, and where it may stand.
use Rattle.std.specs.Prelude.{◌≡◌, ℕ, ◌+◌, ◌-◌, ◌<◌, ◌≤◌, Option, None, Some, IsSome, List, [], ◌∷◌, codes, ⊤}
use Rattle.rela_certfile.specs.declared.rows.Step.{Step}
use Rattle.rela_certfile.specs.declared.item.Item.{Item}
use Rattle.rela_certfile.specs.declared.item.Item.TheVariants.{Word, Complement, Images, Row}
use Rattle.rela_certfile.specs.declared.item.State.{State}
use Rattle.rela_certfile.specs.declared.builder.Builder.{Builder}
use Rattle.rela_certfile.specs.Layout.{Layout, Shape, shape_at, row_line}
use Rattle.rela_certfile.specs.Text.{word_line}

abbrev pub item_line : Layout → Item → List ℕ
item_line l (Word step) = word_line step
item_line l Complement = codes "complement"
item_line l Images = codes "images"
item_line l (Row place) = row_line l place

-- before the first row
abbrev pub start : State
start = record { next = 0; heads = 0; words = 1; bound = 0; path_symbols = 0; symbols = 0 }

-- the step continues a word of the block that is open by a symbol below its bound
abbrev pub MayStep : State → Step → Type 0
MayStep state step = (step.parent < state.words) × (step.symbol < state.bound)

-- whether a line that says this may come next
abbrev pub Allowed : Layout → State → Item → Type 0
Allowed l state (Word step) = MayStep state step
Allowed l state Complement = 1 < state.heads
Allowed l state Images = state.heads ≡ 1
Allowed l state (Row place) =
    (state.heads ≡ 0) × (state.next ≤ place) × IsSome (shape_at l place)

abbrev pub with_row : State → ℕ → Option Shape → State
with_row state place None = state
with_row state place (Some shape) = record {
  next = place + 1;
  heads = shape.complements + 1;
  words = state.words;
  bound = 0;
  path_symbols = shape.path_symbols;
  symbols = shape.symbols;
}

-- what may come after it
abbrev pub after : Layout → State → Item → State
after l state (Word step) = record state { words = state.words + 1 }
after l state Complement =
    record state { heads = state.heads - 1; words = 1; bound = state.path_symbols }
after l state Images = record state { heads = 0; words = 1; bound = state.symbols }
after l state (Row place) = with_row state place (shape_at l place)

abbrev pub after_all : Layout → State → List Item → State
after_all l state [] = state
after_all l state (item ∷ items) = after_all l (after l state item) items

-- each may stand where it stands
abbrev pub Runs : Layout → State → List Item → Type 0
Runs l state [] = ⊤
Runs l state (item ∷ items) = Allowed l state item × Runs l (after l state item) items

-- the steps of all blocks
abbrev pub steps_in : List Item → List Step
steps_in [] = []
steps_in (Word step ∷ items) = step ∷ steps_in items
steps_in (Complement ∷ items) = steps_in items
steps_in (Images ∷ items) = steps_in items
steps_in (Row place ∷ items) = steps_in items

-- how many steps stand before each block, where so many stand before all of them
abbrev pub starts_in : ℕ → List Item → List ℕ
starts_in steps [] = []
starts_in steps (Word step ∷ items) = starts_in (steps + 1) items
starts_in steps (Complement ∷ items) = steps ∷ starts_in steps items
starts_in steps (Images ∷ items) = steps ∷ starts_in steps items
starts_in steps (Row place ∷ items) = starts_in steps items

-- the places of the rows
abbrev pub places_in : List Item → List ℕ
places_in [] = []
places_in (Word step ∷ items) = places_in items
places_in (Complement ∷ items) = places_in items
places_in (Images ∷ items) = places_in items
places_in (Row place ∷ items) = place ∷ places_in items

-- how many blocks stand before those of each row, where so many stand before all of them
abbrev pub firsts_in : ℕ → List Item → List ℕ
firsts_in blocks [] = []
firsts_in blocks (Word step ∷ items) = firsts_in blocks items
firsts_in blocks (Complement ∷ items) = firsts_in (blocks + 1) items
firsts_in blocks (Images ∷ items) = firsts_in (blocks + 1) items
firsts_in blocks (Row place ∷ items) = blocks ∷ firsts_in blocks items

-- what is gathered of these items
pub record Gathers (items : List Item) (builder : Builder) : Type 0 where
  pub places : builder.places.items ≡ places_in items
  pub firsts : builder.firsts.items ≡ firsts_in 0 items
  pub starts : builder.starts.items ≡ starts_in 0 items
  pub steps : builder.steps.items ≡ steps_in items
