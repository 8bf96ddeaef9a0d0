-- Sets of letters below a size: one boolean for each letter, whether it is in the set.
use Rattle.std.specs.Prelude.{ℕ, Bool, false, List}
use Rattle.std.specs.List.{slice_index_or}

-- whether the letter is in the set; none from the size on is
abbrev pub has : List Bool → ℕ → Bool
has letters letter = slice_index_or letters letter false
