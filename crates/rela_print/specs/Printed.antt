-- A text with how tightly it binds.
use Rattle.std.specs.Prelude.{ℕ, nat_lt, if◌then◌else◌, List, ◌++◌, codes}

-- a text, and how tightly what it writes binds: more tightly for a greater number
pub record Printed : Type 0 where
  pub binding : ℕ
  pub text : List ℕ

-- the text as that of a part, in parentheses unless it binds more tightly than the whole
unfoldable pub within : ℕ → Printed → List ℕ
within above part = if nat_lt above part.binding then part.text else codes "("
    ++ (part.text ++ codes ")")
