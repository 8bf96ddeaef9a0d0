-- How names and references are written.
use Rattle.std.specs.Prelude.{ℕ, Bool, ◌||◌, if◌then◌else◌, List, ◌++◌, codes}
use Rattle.std.specs.Str.{bytes_eq}
use Rattle.rela_spec.specs.Keywords.{is_keyword}

-- bytes that would not be read as a name without quotes
unfoldable pub needs_quotes : List ℕ → Bool
needs_quotes name = is_keyword name || bytes_eq name (codes ".") || bytes_eq name (codes ":")

-- the name, in quotes where it needs them
unfoldable pub name_text : List ℕ → List ℕ
name_text name = if needs_quotes name then codes "\"" ++ (name ++ codes "\"") else name

unfoldable pub reference_text : List ℕ → List ℕ
reference_text name = codes "$" ++ name
