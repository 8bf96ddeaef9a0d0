-- Rows of bits, as words of 64 bits: bit j of a row is bit j % 64 of its word j / 64.
use Rattle.std.specs.Prelude.{ℕ, ◌/◌, ◌%◌, ◌==◌, Bool, IsTrue, List, [], slice_index, slice_index_or}
use Rattle.std.specs.Int.{bit_at}

-- whether the bit is 1, which none past the words is
unfoldable pub bit_of : List ℕ → ℕ → Bool
bit_of words j = bit_at (slice_index words (j / 64)) (j % 64) == 1

-- bit j of row i is 1, which none past the rows is
abbrev pub HasBit : List (List ℕ) → ℕ → ℕ → Type 0
HasBit rows i j = IsTrue (bit_of (slice_index_or rows i []) j)
