-- How the blocks of listed rows lie one after another, and which rows lie so.
use Rattle.std.specs.Prelude.{◌≡◌, ℕ, ◌+◌, ◌<◌, ◌^◌, List, length, map}
use Rattle.std.specs.List.{flat_map, zip}
use Rattle.rela_certfile.specs.declared.rows.Step.{Step}
use Rattle.rela_certfile.specs.declared.rows.ListedRow.{ListedRow}
use Rattle.rela_certfile.specs.Blocks.{blocks_of, row_of}
use Rattle.rela_certfile.specs.Parts.{joined, parts, starts_of}

-- the blocks of all rows
abbrev pub all_blocks : List ListedRow → List (List Step)
all_blocks rows = flat_map blocks_of rows

-- the places of these rows in the plan, where the blocks of each row begin among all blocks, where each block begins
-- among all steps, and the steps
pub record Holds (rows : List ListedRow) (places firsts starts : List ℕ) (steps : List Step) : Type 0 where
  pub placed : places ≡ map (λ row. row.place) rows
  pub parted : firsts ≡ starts_of 0 (map blocks_of rows)
  pub begun : starts ≡ starts_of 0 (all_blocks rows)
  pub stepped : steps ≡ joined (all_blocks rows)
  pub few : length places + length starts + length steps + 2 < 2 ^ 32

-- the rows that these hold
abbrev pub rows_held : List ℕ → List ℕ → List ℕ → List Step → List ListedRow
rows_held places firsts starts steps =
    map (λ row. row_of row.0 row.1) (zip places (parts (parts steps starts) firsts))
