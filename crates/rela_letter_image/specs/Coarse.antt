-- Fine letters, each of which lies in a coarse one: a list gives for each fine letter the number of its coarse letter.
use Rattle.std.specs.Prelude.{ℕ, Bool, List, length, filter, slice_index, slice_index_or}
use Rattle.std.specs.List.{range_with_len}
use Rattle.rela_labels.specs.Letters.{has}

-- the coarse letter of a fine one, among so many coarse letters; a number past the list is read as none of them
abbrev pub coarse_of : ℕ → List ℕ → ℕ → ℕ
coarse_of letters coarse k = slice_index_or coarse k letters

-- whether the coarse letter of k, which is one of the list, is in the set
abbrev pub in_coarse : List ℕ → List Bool → ℕ → Bool
in_coarse coarse set k = has set (slice_index coarse k)

-- the fine letters whose coarse letter is in the set
abbrev pub fine_letters : List ℕ → List Bool → List ℕ
fine_letters coarse set = filter (in_coarse coarse set) (range_with_len 0 (length coarse))
