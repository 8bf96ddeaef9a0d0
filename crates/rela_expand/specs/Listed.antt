-- Checks whose classes list path symbols alone.
use Rattle.std.specs.Prelude.{ℕ, ◌<◌, List}
use Rattle.std.specs.List.{All}
use Rattle.rela_names.specs.Alphabet.{path_symbols}
use Rattle.rela_translate.specs.Checked.{Checked}

-- the classes of the check list path symbols of these locations
abbrev pub ListsPathSymbols : List (List ℕ) → Checked → Type 0
ListsPathSymbols names check = All (λ set.
    All (λ s. s < path_symbols names) set.members) check.classes
