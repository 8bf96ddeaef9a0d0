-- The data that a piece stands for.
use Rattle.std.specs.Prelude.{ℕ, List, [], ◌∷◌, map}
use Rattle.std.specs.Borrow.{Bor}
use Rattle.serde_json.specs.Data.{Data, number, string, array, unsigned}
use Rattle.serde_json.specs.View.{items_of}
use Rattle.rela_tokens.specs.declared.piece.Piece.{Piece}
use Rattle.rela_tokens.specs.declared.piece.Piece.TheVariants.{Text, Number, Empty, Texts, Numbers, Pairs}
use Rattle.rela_tokens.specs.declared.piece.Member.{Member}

-- a list of data as an array
abbrev pub list : List Data → Data
list ds = array (items_of ds)

abbrev pub whole : ℕ → Data
whole n = number (unsigned n)

abbrev pub text : Bor (List ℕ) → Data
text s = string s.now

-- an array of two whole numbers
abbrev pub pair : ℕ × ℕ → Data
pair p = list (whole p.0 ∷ whole p.1 ∷ [])

abbrev pub data_of : Piece → Data
data_of (Text s) = text s
data_of (Number n) = whole n
data_of Empty = list []
data_of (Texts v) = list (map text v.items)
data_of (Numbers v) = list (map whole v.items)
data_of (Pairs v) = list (map pair v.items)

-- a member's name, and its value
abbrev pub member_of : Member → List ℕ × Data
member_of m = (m.name.now, data_of m.piece)
