-- Sets of letters as the bits of words of 64 bits: letter k is bit k % 64 of word k / 64.
use Rattle.std.specs.Prelude.{◌≡◌, ℕ, ◌+◌, ◌/◌, ◌%◌, ◌*◌, ◌^◌, ◌<◌, ◌≤◌, ◌==◌, Bool, false, List, length, map, slice_index}
use Rattle.std.specs.Int.{bit_at}
use Rattle.std.specs.List.{range_with_len}

-- whether the bit of the letter is 1 in one word
abbrev pub word_has : ℕ → ℕ → Bool
word_has word letter = bit_at word letter == 1

-- whether the bit of the letter is 1; past the words none is
unfoldable pub bit_of : List ℕ → ℕ → Bool
bit_of words letter = bit_at (slice_index words (letter / 64)) (letter % 64) == 1

-- the letters below the size whose bits are 1
unfoldable pub letters_of : ℕ → List ℕ → List Bool
letters_of size words = map (bit_of words) (range_with_len 0 size)

-- no bit from the size on is 1, and the size has its words
pub record IsTidy (size : ℕ) (words : List ℕ) : Type 0 where
  pub clear : (letter : ℕ) → size ≤ letter → bit_of words letter ≡ false
  pub enough : size ≤ 64 * length words

-- the words of a set of any size: as many as its letters take, and tidy
pub record IsWide (size : ℕ) (words : List ℕ) : Type 0 where
  pub tidy : IsTidy size words
  pub len : length words ≡ (size + 63) / 64
  pub fits : size < 2 ^ 32

-- the words of a set in w of them: at most 64, and tidy
pub record IsNarrow (w size : ℕ) (words : List ℕ) : Type 0 where
  pub tidy : IsTidy size words
  pub few : w ≤ 64
  pub len : length words ≡ w
