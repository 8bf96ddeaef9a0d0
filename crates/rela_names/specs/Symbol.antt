-- What symbol numbers stand for, their order and their texts.
use Rattle.std.specs.Prelude.{ℕ, ◌<◌, ◌+◌, ◌-◌, ◌==◌, nat_lt, if◌then◌else◌, List, [], ◌∷◌, ◌++◌, length, codes, ⊤}
use Rattle.std.specs.Fmt.{decimal}
use Rattle.std.specs.List.{flat_map, slice_index_or}
use Rattle.rela_names.specs.Name.{IsBytesBefore}

pub data Meaning : Type 0 where
  Location : List ℕ → Meaning
  Drop : Meaning
  Loop : Meaning
  Marker : ℕ → Meaning

-- the locations are numbered first, then drop, loop, and the markers from #1 on
abbrev pub meaning_of : List (List ℕ) → ℕ → Meaning
meaning_of names s =
    if nat_lt s (length names) then Location (slice_index_or names s [])
    else if s == length names then Drop
    else if s == length names + 1 then Loop
    else Marker (s - (length names + 1))

-- the locations by the bytes of their names, then drop, loop, and the markers by their numbers
abbrev pub SymbolOrder : Meaning → Meaning → Type 0
SymbolOrder (Location a) (Location b) = IsBytesBefore a b
SymbolOrder (Location a) Drop = ⊤
SymbolOrder (Location a) Loop = ⊤
SymbolOrder (Location a) (Marker k) = ⊤
SymbolOrder Drop (Location b) = ⊥
SymbolOrder Drop Drop = ⊥
SymbolOrder Drop Loop = ⊤
SymbolOrder Drop (Marker k) = ⊤
SymbolOrder Loop (Location b) = ⊥
SymbolOrder Loop Drop = ⊥
SymbolOrder Loop Loop = ⊥
SymbolOrder Loop (Marker k) = ⊤
SymbolOrder (Marker j) (Location b) = ⊥
SymbolOrder (Marker j) Drop = ⊥
SymbolOrder (Marker j) Loop = ⊥
SymbolOrder (Marker j) (Marker k) = j < k

-- a name, `drop`, `loop`, or `#` and a decimal number
abbrev pub meaning_text : Meaning → List ℕ
meaning_text (Location name) = name
meaning_text Drop = codes "drop"
meaning_text Loop = codes "loop"
meaning_text (Marker k) = 35 ∷ decimal k

abbrev pub symbol_text : List (List ℕ) → ℕ → List ℕ
symbol_text names s = meaning_text (meaning_of names s)

-- the texts of the symbols with one blank between two, or `()` for the empty word
abbrev pub word_text : List (List ℕ) → List ℕ → List ℕ
word_text names [] = codes "()"
word_text names (s ∷ others) = symbol_text names s ++ flat_map (λ t.
    32 ∷ symbol_text names t) others
