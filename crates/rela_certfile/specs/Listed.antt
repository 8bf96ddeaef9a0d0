-- What a certificate lists: rows of a plan, each with its blocks of words.
use Rattle.std.specs.Prelude.{◌≡◌, ℕ, ◌+◌, ◌<◌, ◌≤◌, Option, None, Some, List, [], ◌∷◌, ◌++◌, length, ⊤}
use Rattle.std.specs.List.{AllByRecursion, slice_index_or}
use Rattle.rela_certfile.specs.declared.rows.Step.{Step}
use Rattle.rela_certfile.specs.declared.rows.ListedRow.{ListedRow}
use Rattle.rela_certfile.specs.Layout.{Layout, Shape, shape_at}

-- each step adds the word of its parent, followed by its symbol
abbrev pub words_after : List (List ℕ) → List Step → List (List ℕ)
words_after words [] = words
words_after words (step ∷ steps) = words_after
    (words ++ (slice_index_or words step.parent [] ++ step.symbol ∷ []) ∷ []) steps

-- the words of a block: the empty word, and then one for each step
abbrev pub words_of : List Step → List (List ℕ)
words_of steps = words_after ([] ∷ []) steps

-- behind so many words, each step continues an earlier word by a symbol below the bound
abbrev pub AreSteps : ℕ → ℕ → List Step → Type 0
AreSteps words bound [] = ⊤
AreSteps words bound (step ∷ steps) =
    (step.parent < words) × (step.symbol < bound) × AreSteps (words + 1) bound steps

-- the steps of a block whose symbols are below the bound; the empty word comes first
abbrev pub IsBlock : ℕ → List Step → Type 0
IsBlock bound steps = AreSteps 1 bound steps

-- one complement block for each complement of the check, and the block of the images
pub record HasShape (shape : Shape) (row : ListedRow) : Type 0 where
  pub one_each : length row.complements ≡ shape.complements
  pub complements : AllByRecursion (IsBlock shape.path_symbols) row.complements
  pub images : IsBlock shape.symbols row.images

-- the planned row has a check, and the blocks are as it asks
abbrev pub IsListedAs : Option Shape → ListedRow → Type 0
IsListedAs None row = ⊥
IsListedAs (Some shape) row = HasShape shape row

-- the rows stand at this place of the plan or later, in the order of the plan, each at most once
abbrev pub AreListedFrom : Layout → ℕ → List ListedRow → Type 0
AreListedFrom l next [] = ⊤
AreListedFrom l next (row ∷ rows) =
    (next ≤ row.place) × IsListedAs (shape_at l row.place) row
    × AreListedFrom l (row.place + 1) rows

abbrev pub AreListed : Layout → List ListedRow → Type 0
AreListed l rows = AreListedFrom l 0 rows
