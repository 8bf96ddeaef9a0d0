-- Names, and their order by bytes.
use Rattle.std.specs.Prelude.{◌≡◌, ℕ, Bool, ◌&&◌, ◌||◌, ◌==◌, not, nat_le, IsTrue, List, length, codes}
use Rattle.std.specs.Char.{is_ascii_alphanumeric}
use Rattle.std.specs.Cmp.Lexicographic.{slice_cmp}
use Rattle.std.specs.List.{list_all, AllPairs}
use Rattle.std.specs.declared.cmp.Ordering.{Ordering}
use Rattle.std.specs.declared.cmp.Ordering.TheVariants.{Less}
use Rattle.std.specs.Ordering.{nat_cmp}
use Rattle.std.specs.Str.{bytes_eq}

-- a letter, a digit, or one of `_` `.` `:` `/` `-`
abbrev pub is_name_byte : ℕ → Bool
is_name_byte b = is_ascii_alphanumeric b || b == 95 || b == 46 || b == 58 || b == 47 || b == 45

-- 1 to 64 name bytes
abbrev pub is_name : List ℕ → Bool
is_name bytes = nat_le 1 (length bytes) && nat_le (length bytes) 64 && list_all is_name_byte bytes

abbrev pub IsName : List ℕ → Type 0
IsName bytes = IsTrue (is_name bytes)

-- the names of the two path symbols that are no locations
abbrev pub is_reserved : List ℕ → Bool
is_reserved bytes = bytes_eq bytes (codes "drop") || bytes_eq bytes (codes "loop")

-- a name that a location may have
abbrev pub IsLocationName : List ℕ → Type 0
IsLocationName bytes = IsTrue (is_name bytes && not (is_reserved bytes))

-- the order by bytes: smaller at the first place where the two differ, or a proper prefix of the other
abbrev pub bytes_cmp : List ℕ → List ℕ → Ordering
bytes_cmp = slice_cmp nat_cmp

abbrev pub IsBytesBefore : List ℕ → List ℕ → Type 0
IsBytesBefore a b = bytes_cmp a b ≡ Less

-- each is before all later ones
abbrev pub IsAscending : List (List ℕ) → Type 0
IsAscending names = AllPairs IsBytesBefore names
