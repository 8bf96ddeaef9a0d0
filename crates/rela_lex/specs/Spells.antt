-- The relation between a text and its tokens: a text is cut into blanks, comments and tokens.
use Rattle.std.specs.Prelude.{◌≡◌, ◌≢◌, ℕ, ◌+◌, ◌⊎◌, Bool, false, ◌||◌, ◌==◌, not, IsTrue, List, [], ◌∷◌, ◌++◌, length, codes, ⊤, Option, Some, None}
use Rattle.std.specs.List.{flat_map, list_all, list_any}
use Rattle.std.specs.Str.{bytes_eq}
use Rattle.rela_names.specs.Name.{is_name_byte, IsName}
use Rattle.rela_lex.specs.declared.error.SpecError.{SpecError}
use Rattle.rela_lex.specs.declared.error.SpecError.TheVariants.{BadToken, Memory}
use Rattle.rela_lex.specs.declared.token.Token.{Token}
use Rattle.rela_lex.specs.declared.token.TokenKind.{TokenKind}
use Rattle.rela_lex.specs.declared.token.TokenKind.TheVariants.{Mark, Bare, Quoted, Reference}

-- a blank, a tab, a carriage return or a line feed
abbrev pub is_blank : ℕ → Bool
is_blank byte = byte == 32 || byte == 9 || byte == 13 || byte == 10

-- a byte that is a mark whatever follows it
abbrev pub is_mark : ℕ → Bool
is_mark byte = list_any (λ mark. byte == mark) (codes "(){}[]^*+?!&|,;=")

-- a run of name bytes that is a mark and no word
abbrev pub is_lone_mark : List ℕ → Bool
is_lone_mark run = bytes_eq run (codes ".") || bytes_eq run (codes ":")

abbrev pub is_within_line : ℕ → Bool
is_within_line byte = not (byte == 10)

-- what a text is cut into: single blank bytes, comments by what stands behind their `#`, and tokens
pub data Piece : Type 0 where
  Blank : ℕ → Piece
  Comment : List ℕ → Piece
  Lexeme : TokenKind → Piece

abbrev pub token_spelling : TokenKind → List ℕ
token_spelling (Mark byte) = byte ∷ []
token_spelling (Bare name) = name
token_spelling (Quoted name) = 34 ∷ (name ++ 34 ∷ [])
token_spelling (Reference name) = 36 ∷ name

abbrev pub spelling : Piece → List ℕ
spelling (Blank byte) = byte ∷ []
spelling (Comment line) = 35 ∷ line
spelling (Lexeme kind) = token_spelling kind

-- no byte that passes stands at the front
abbrev pub StopsBefore : (ℕ → Bool) → List ℕ → Type 0
StopsBefore passes [] = ⊤
StopsBefore passes (byte ∷ rest) = passes byte ≡ false

-- the token may stand before this rest of the text
abbrev pub TokenStands : TokenKind → List ℕ → Type 0
TokenStands (Mark byte) rest = IsTrue (is_mark byte) ⊎ (IsTrue (is_lone_mark (byte ∷ []))
    × StopsBefore is_name_byte rest)
TokenStands (Bare name) rest = IsName name × (is_lone_mark name ≡ false)
    × StopsBefore is_name_byte rest
TokenStands (Quoted name) rest = IsName name
TokenStands (Reference name) rest = IsName name × StopsBefore is_name_byte rest

-- the piece may stand before this rest of the text
abbrev pub Stands : Piece → List ℕ → Type 0
Stands (Blank byte) rest = IsTrue (is_blank byte)
Stands (Comment line) rest = IsTrue (list_all is_within_line line) × StopsBefore is_within_line rest
Stands (Lexeme kind) rest = TokenStands kind rest

-- each piece may stand before what follows it
abbrev pub EachStands : List Piece → List ℕ → Type 0
EachStands [] rest = ⊤
EachStands (piece ∷ pieces) rest = Stands piece (flat_map spelling pieces ++ rest)
    × EachStands pieces rest

-- the pieces cut the text up to this rest of it
pub record IsCut (text : List ℕ) (pieces : List Piece) (rest : List ℕ) : Type 0 where
  pub joined : text ≡ flat_map spelling pieces ++ rest
  pub stands : EachStands pieces rest

abbrev pub token_of : Piece → Option TokenKind
token_of (Blank byte) = None
token_of (Comment line) = None
token_of (Lexeme kind) = Some kind

abbrev pub tokens_at : ℕ → Option TokenKind → List Token
tokens_at at None = []
tokens_at at (Some kind) = record { at = at; kind = kind } ∷ []

-- the tokens of pieces of which the first stands at this offset
abbrev pub tokens_from : ℕ → List Piece → List Token
tokens_from at [] = []
tokens_from at (piece ∷ pieces) = tokens_at at (token_of piece)
    ++ tokens_from (at + length (spelling piece)) pieces

-- the whole text is cut, and these are the tokens of the cut
pub record Spells (text : List ℕ) (tokens : List Token) : Type 0 where
  pub pieces : List Piece
  pub cut : IsCut text pieces []
  pub read : tokens ≡ tokens_from 0 pieces

-- a cut reaches this offset, the text goes on there, and no piece begins there
pub record IsBadToken (text : List ℕ) (at : ℕ) : Type 0 where
  pub pieces : List Piece
  pub rest : List ℕ
  pub cut : IsCut text pieces rest
  pub here : at ≡ length (flat_map spelling pieces)
  pub more : rest ≢ []
  pub none : (piece : Piece) (after : List ℕ) → rest ≡ spelling piece ++ after →
      ¬ Stands piece after

-- a cut reaches a token
pub record ReachesToken (text : List ℕ) : Type 0 where
  pub pieces : List Piece
  pub kind : TokenKind
  pub rest : List ℕ
  pub cut : IsCut text (pieces ++ Lexeme kind ∷ []) rest

-- memory ran out at a token, or this is the text's fault
abbrev pub IsFault : List ℕ → SpecError → Type 0
IsFault text (BadToken at) = IsBadToken text at
IsFault text Memory = ReachesToken text
IsFault text _ = ⊥
