-- The text of a certificate, line by line.
use Rattle.std.specs.Prelude.{◌≡◌, ℕ, ◌<◌, ◌^◌, ◌∷◌, List, [], ◌++◌, map, codes}
use Rattle.std.specs.Fmt.{decimal}
use Rattle.std.specs.List.{flat_map}
use Rattle.rela_certfile.specs.declared.rows.Step.{Step}
use Rattle.rela_certfile.specs.declared.rows.ListedRow.{ListedRow}
use Rattle.rela_certfile.specs.Layout.{Layout, row_line}

-- the number of the parent, a blank, and the number of the symbol
abbrev pub word_line : Step → List ℕ
word_line step = decimal step.parent ++ 32 ∷ decimal step.symbol

-- the line writes the step, whose numbers have 32 bits
pub record IsWordLine (line : List ℕ) (step : Step) : Type 0 where
  pub parent : step.parent < 2 ^ 32
  pub symbol : step.symbol < 2 ^ 32
  pub written : line ≡ word_line step

abbrev pub complement_lines : List Step → List (List ℕ)
complement_lines steps = codes "complement" ∷ map word_line steps

abbrev pub images_lines : List Step → List (List ℕ)
images_lines steps = codes "images" ∷ map word_line steps

-- the line that names the row, its complement blocks, and its images block
unfoldable pub row_lines : Layout → ListedRow → List (List ℕ)
row_lines l row =
    row_line l row.place ∷ (flat_map complement_lines row.complements ++ images_lines row.images)

abbrev pub header : List ℕ
header = codes "rela certificate 1"

abbrev pub last_line : List ℕ
last_line = codes "end"

-- the first line, the lines of the rows, and the last line
unfoldable pub lines_of : Layout → List ListedRow → List (List ℕ)
lines_of l rows = header ∷ (flat_map (row_lines l) rows ++ last_line ∷ [])

-- the lines, each ended by a line feed
abbrev pub ended : List (List ℕ) → List ℕ
ended lines = flat_map (λ line. line ++ 10 ∷ []) lines

-- the text of these rows without its last line, to which more rows may be appended
unfoldable pub text_begun : Layout → List ListedRow → List ℕ
text_begun l rows = ended (header ∷ flat_map (row_lines l) rows)

-- the text of a certificate that lists these rows
abbrev pub text_of : Layout → List ListedRow → List ℕ
text_of l rows = ended (lines_of l rows)
