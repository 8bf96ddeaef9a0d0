-- The letters of a set of any size: the bits of one word where the size is at most 64, and else
-- none, one, or those whose bits in several words are 1.
use Rattle.std.specs.Prelude.{◌≡◌, ℕ, ◌^◌, ◌<◌, ◌≤◌, ◌==◌, Bool, false, List, length, map}
use Rattle.std.specs.List.{range_with_len}
use Rattle.rela_labels.specs.declared.letters.Letters.{Letters}
use Rattle.rela_labels.specs.declared.letters.Letters.TheVariants.{Few, Wide}
use Rattle.rela_labels.specs.Words.{bit_of, word_has, IsWide}
use Rattle.rela_labels.specs.declared.wide_members.Members.{Members}
use Rattle.rela_labels.specs.declared.wide_members.Members.TheVariants.{Nothing, One, Many}

-- whether the letter is there
abbrev pub holds : Members → ℕ → Bool
holds Nothing k = false
holds (One letter) k = letter == k
holds (Many words) k = bit_of words k

-- each letter is below the size, and words are as many as the size takes
abbrev pub IsHeld : ℕ → Members → Type 0
IsHeld size Nothing = size < 2 ^ 32
IsHeld size (One letter) = (letter < size) × (size < 2 ^ 32)
IsHeld size (Many words) = IsWide size words

-- words are few, so that each bit is a letter
abbrev pub AreFew : Members → Type 0
AreFew Nothing = Unit {0}
AreFew (One letter) = Unit {0}
AreFew (Many words) = length words ≤ 2 ^ 26

-- where both are words, they are as many
abbrev pub HaveOneSize : Members → Members → Type 0
HaveOneSize Nothing other = Unit {0}
HaveOneSize (One letter) other = Unit {0}
HaveOneSize (Many words) Nothing = Unit {0}
HaveOneSize (Many words) (One letter) = Unit {0}
HaveOneSize (Many words) (Many others) = length words ≡ length others

-- whether the letter is there: in a word, whether its bit is 1
abbrev pub has_letter : Letters → ℕ → Bool
has_letter (Few word) k = word_has word k
has_letter (Wide members) k = holds members k

-- a word for the letters below a size of at most 64: no bit from the size on is 1
pub record IsWordFor (size word : ℕ) : Type 0 where
  pub clear : (k : ℕ) → size ≤ k → word_has word k ≡ false
  pub fits : size ≤ 64

-- each letter is below the size, and they are a word exactly where the size is at most 64
abbrev pub IsSized : ℕ → Letters → Type 0
IsSized size (Few word) = IsWordFor size word
IsSized size (Wide members) = (64 < size) × IsHeld size members

-- letters that are no word are few words, so that each bit is a letter
abbrev pub HaveFewWords : Letters → Type 0
HaveFewWords (Few word) = Unit {0}
HaveFewWords (Wide members) = AreFew members

-- both are a word, or neither is and they are of one size
abbrev pub AreAlike : Letters → Letters → Type 0
AreAlike (Few word) (Few other) = Unit {0}
AreAlike (Few word) (Wide others) = ⊥
AreAlike (Wide members) (Few other) = ⊥
AreAlike (Wide members) (Wide others) = HaveOneSize members others

-- for each letter below the size, whether it is there
unfoldable pub letters_in : ℕ → Letters → List Bool
letters_in size letters = map (has_letter letters) (range_with_len 0 size)
