-- The blocks of listed rows, and the lines that they begin at.
use Rattle.std.specs.Prelude.{ℕ, ◌+◌, ◌∷◌, List, [], ◌++◌, length, take, Option, None, Some}
use Rattle.std.specs.List.{slice_get, sum_by}
use Rattle.rela_certfile.specs.declared.rows.Step.{Step}
use Rattle.rela_certfile.specs.declared.rows.ListedRow.{ListedRow}

-- the blocks of a row, in the order of their lines: those of the complements, and that of the images
abbrev pub blocks_of : ListedRow → List (List Step)
blocks_of row = row.complements ++ row.images ∷ []

-- all blocks but the last
abbrev pub fronts : List (List Step) → List (List Step)
fronts [] = []
fronts (b ∷ []) = []
fronts (b ∷ c ∷ bs) = b ∷ fronts (c ∷ bs)

-- the last block
abbrev pub last_of : List (List Step) → List Step
last_of [] = []
last_of (b ∷ []) = b
last_of (b ∷ c ∷ bs) = last_of (c ∷ bs)

-- the row at this place whose blocks these are
abbrev pub row_of : ℕ → List (List Step) → ListedRow
row_of place blocks =
    record { place = place; complements = fronts blocks; images = last_of blocks }

-- the blocks of the row, if there is one
abbrev pub blocks_of_row : Option ListedRow → List (List Step)
blocks_of_row None = []
blocks_of_row (Some row) = blocks_of row

-- the k-th block of the i-th row, if there is one
unfoldable pub block_at : List ListedRow → ℕ → ℕ → Option (List Step)
block_at rows i k = slice_get (blocks_of_row (slice_get rows i)) k

-- a block has a head, and a line for each step
abbrev pub block_height : List Step → ℕ
block_height steps = 1 + length steps

-- a row has the line that names it, and the lines of its blocks
abbrev pub row_height : ListedRow → ℕ
row_height row = 1 + sum_by block_height (blocks_of row)

-- The line, counted from 1, of the head of the k-th block of the i-th row. Before it stand the first line of all, the
-- earlier rows, the line that names the row, and its earlier blocks.
unfoldable pub head_line : List ListedRow → ℕ → ℕ → ℕ
head_line rows i k =
    1 + sum_by row_height (take i rows)
    + 1 + sum_by block_height (take k (blocks_of_row (slice_get rows i)))
    + 1
