-- What the readers of fields answer, in the words of the grammar.
use Rattle.std.specs.Prelude.{◌≡◌, ℕ, ◌+◌, ◌^◌, ◌≤◌, ◌==◌, Option, None, Some, slice_index, List, [], length}
use Rattle.std.specs.List.{slice_split}
use Rattle.std.specs.Int.Digits.{number_from_digits}
use Rattle.rela_flows.specs.declared.prefix.reading.Notation.{Notation}
use Rattle.rela_flows.specs.declared.prefix.reading.Notation.TheVariants.{Dotted, Colons}
use Rattle.rela_flows.specs.declared.prefix.reading.Fields.{Fields}
use Rattle.rela_flows.specs.Notation.{dot, colon, IsOctet, IsGroup, IsFields}

abbrev pub separator_of : Notation → ℕ
separator_of Dotted = dot
separator_of Colons = colon

abbrev pub bits_of : Notation → ℕ
bits_of Dotted = 8
bits_of Colons = 16

abbrev pub IsField : Notation → List ℕ → ℕ → Type 0
IsField Dotted = IsOctet
IsField Colons = IsGroup

-- the parts of a text between its separators; no text has no part
abbrev pub parts_of : ℕ → Option (List ℕ) → List (List ℕ)
parts_of separator None = []
parts_of separator (Some text) = slice_split (λ b. b == separator) text

-- the text is so many fields, at most eight, and the number that they write one after another
pub record Write (notation : Notation) (text : List ℕ) (fields : Fields) : Type 0 where
  pub numbers : List ℕ
  pub written : IsFields (separator_of notation) (IsField notation) text numbers
  pub few : length numbers ≤ 8
  pub count : fields.count ≡ length numbers
  pub number : fields.number ≡ number_from_digits (2 ^ bits_of notation) numbers

-- two colons stand at the place k of the text
pub record IsGap (text : List ℕ) (k : ℕ) : Type 0 where
  pub first : slice_index text k ≡ colon
  pub second : slice_index text (k + 1) ≡ colon
