-- What stands at the front of a text, by its first byte: the piece's token and length, or nothing where no piece begins.
use Rattle.std.specs.Prelude.{ℕ, ◌+◌, Bool, false, ◌==◌, if◌then◌else◌, List, [], ◌∷◌, take, drop, Option, Some, None, is_some, slice_index}
use Rattle.std.specs.List.{prefix_len}
use Rattle.rela_names.specs.Name.{is_name_byte, is_name}
use Rattle.rela_lex.specs.declared.front.Front.{Front}
use Rattle.rela_lex.specs.declared.token.TokenKind.{TokenKind}
use Rattle.rela_lex.specs.declared.token.TokenKind.TheVariants.{Mark, Bare, Quoted, Reference}
use Rattle.rela_lex.specs.Spells.{is_blank, is_mark, is_lone_mark, is_within_line}

abbrev pub begins_with : ℕ → List ℕ → Bool
begins_with byte [] = false
begins_with byte (first ∷ rest) = first == byte

-- the token of this name in a piece of so many bytes, if it is a name
abbrev pub named : (List ℕ → TokenKind) → List ℕ → ℕ → Option Front
named kind name len = if is_name name then Some (record { token = Some (kind name); len = len })
    else None

-- behind the first `"`
unfoldable pub quoted_front : List ℕ → Option Front
quoted_front rest =
    let len = prefix_len is_name_byte rest in
    if begins_with 34 (drop len rest) then named Quoted (take len rest) (len + 2) else None

-- behind the `$`
unfoldable pub reference_front : List ℕ → Option Front
reference_front rest =
    let len = prefix_len is_name_byte rest in named Reference (take len rest) (len + 1)

unfoldable pub bare_front : List ℕ → Option Front
bare_front text =
    let len = prefix_len is_name_byte text in
    let run = take len text in
    if is_lone_mark run then Some (record { token = Some (Mark (slice_index run 0)); len = 1 })
    else named Bare run len

unfoldable pub front_of : List ℕ → Option Front
front_of [] = None
front_of (byte ∷ rest) =
    if is_blank byte then Some (record { token = None; len = 1 })
    else if byte == 35 then Some (record { token = None; len = 1 + prefix_len is_within_line rest })
    else if byte == 34 then quoted_front rest
    else if byte == 36 then reference_front rest
    else if is_name_byte byte then bare_front (byte ∷ rest)
    else if is_mark byte then Some (record { token = Some (Mark byte); len = 1 })
    else None

-- the piece is a token
abbrev pub has_token : Option Front → Bool
has_token None = false
has_token (Some front) = is_some front.token
