-- The grammar of specifications: which tokens spell which tree, and where a list of tokens is no text of it.
use Rattle.std.specs.Prelude.{◌≡◌, ℕ, zero, suc, ◌+◌, Bool, true, false, ◌||◌, ◌==◌, ◌&&◌, not, if◌then◌else◌, Option, None, Some, IsSome, List, [], ◌∷◌, ◌++◌, codes, ⊤}
use Rattle.std.specs.Option.{option_and_then}
use Rattle.rela_names.specs.declared.level.Level.{Level}
use Rattle.rela_names.specs.declared.level.Level.TheVariants as level
use Rattle.rela_lex.specs.declared.error.SpecError.{SpecError}
use Rattle.rela_lex.specs.declared.error.SpecError.TheVariants.{Syntax, TooDeep, BadNumber, Memory}
use Rattle.rela_lex.specs.declared.token.Token.{Token}
use Rattle.rela_lex.specs.declared.token.TokenKind.{TokenKind}
use Rattle.rela_lex.specs.declared.token.TokenKind.TheVariants.{Mark, Bare}
use Rattle.rela_flows.specs.declared.predicate.Predicate.{Predicate}
use Rattle.rela_flows.specs.declared.predicate.Predicate.TheVariants as flows
use Rattle.rela_spec.specs.Phrases.{Phrase, done, ◌>>=◌, ◌>>◌, ◌or◌, whether, many}
use Rattle.rela_spec.specs.GrammarWords.{mark, word, name, is_number, is_good_number}
use Rattle.rela_spec.specs.GrammarPaths.{path}
use Rattle.rela_spec.specs.GrammarSpecs.{body}
use Rattle.rela_spec.specs.GrammarPredicates.{predicate}
use Rattle.rela_spec.specs.declared.tree.Item.{Item}
use Rattle.rela_spec.specs.declared.tree.Item.TheVariants as item
use Rattle.rela_spec.specs.declared.tree.SpecFile.{SpecFile}

unfoldable pub level_word : Phrase Level
level_word =
    (word (codes "interface") >> done level.Interface)
    or (word (codes "device") >> done level.Device)
    or (word (codes "group") >> done level.Group)

-- the level that a text begins with, or interface
unfoldable pub level_line : Phrase Level
level_line = (word (codes "level") >> (level_word >>= λ l. mark 59 >> done l)) or
    done level.Interface

-- the flows that a check is for: all where it doesn't say
unfoldable pub condition : ℕ → Phrase Predicate
condition room = (word (codes "for") >> predicate room) or done flows.All

unfoldable pub path_item : ℕ → Phrase Item
path_item room = do
  n ← name
  mark 61
  e ← path room
  mark 59
  done (item.Path n.name n.at e)

unfoldable pub spec_item : ℕ → Phrase Item
spec_item room = do
  n ← name
  mark 61
  s ← body room
  mark 59
  done (item.Spec n.name n.at s)

unfoldable pub check_item : ℕ → Phrase Item
check_item room = do
  at_most ← whether (word (codes "atmost"))
  n ← name
  when ← condition room
  mark 58
  s ← body room
  mark 59
  done (item.Check at_most n.name n.at when s)

unfoldable pub an_item : ℕ → Phrase Item
an_item room =
    (word (codes "path") >> path_item room)
    or (word (codes "spec") >> spec_item room)
    or (word (codes "check") >> check_item room)

unfoldable pub file : ℕ → Phrase SpecFile
file room = do
  l ← level_line
  items ← many (an_item room)
  done (record { level = l; items = items })

-- the tokens spell the tree, whatever number of brackets is nested
pub record Grammar (tokens : List Token) (tree : SpecFile) : Type 0 where
  pub nested : ℕ
  pub spelled : file nested tokens tree []

-- some text begins with these tokens
pub record BeginsText (tokens : List Token) : Type 0 where
  pub others : List Token
  pub tree : SpecFile
  pub whole : Grammar (tokens ++ others) tree

abbrev pub opens : TokenKind → Bool
opens (Mark byte) = byte == 40 || byte == 91 || byte == 123
opens _ = false

abbrev pub closes : TokenKind → Bool
closes (Mark byte) = byte == 41 || byte == 93 || byte == 125
closes _ = false

abbrev pub one_less : ℕ → Option ℕ
one_less zero = None
one_less (suc n) = Some n

-- how many more brackets may be opened behind a token
abbrev pub room_after : TokenKind → ℕ → Option ℕ
room_after kind room = if opens kind then one_less room
    else (if closes kind then Some (room + 1) else Some room)

-- how many more brackets may be opened behind the tokens; None where too many are open behind some of them
unfoldable pub room_behind : ℕ → List Token → Option ℕ
room_behind room [] = Some room
room_behind room (t ∷ ts) = option_and_then (λ left. room_behind left ts) (room_after t.kind room)

-- at most 100 brackets are open anywhere
abbrev pub IsShallow : List Token → Type 0
IsShallow tokens = IsSome (room_behind 100 tokens)

abbrev pub is_mark_of : ℕ → TokenKind → Bool
is_mark_of byte (Mark other) = other == byte
is_mark_of byte _ = false

abbrev pub is_bad_number : TokenKind → Bool
is_bad_number (Bare w) = is_number w && not (is_good_number w)
is_bad_number _ = false

-- where a bad number stands, if the tokens begin with one in its brackets
unfoldable pub bad_in_front : List Token → Option ℕ
bad_in_front (a ∷ b ∷ c ∷ ts) = if is_mark_of 123 a.kind
    && (is_bad_number b.kind && is_mark_of 125 c.kind) then Some b.at else None
bad_in_front _ = None

-- where the first bad number stands: in a text of the grammar a number is a bare word of digits between `{` and `}`, and these are numbers
unfoldable pub bad_number : List Token → Option ℕ
bad_number [] = None
bad_number (t ∷ ts) = elim (bad_in_front (t ∷ ts)) [ Some at ↦ Some at | None ↦ bad_number ts ]

-- the tokens spell the tree, with at most 100 brackets open anywhere and no bad number
pub record Spells (tokens : List Token) (tree : SpecFile) : Type 0 where
  pub grammar : Grammar tokens tree
  pub shallow : IsShallow tokens
  pub numbers : bad_number tokens ≡ None

-- the offset of the next token, or the end of the text
abbrev pub offset : ℕ → List Token → ℕ
offset end [] = end
offset end (t ∷ ts) = t.at

-- both lists have this next token, or both have none
abbrev pub SameNext : List Token → List Token → Type 0
SameNext [] others = others ≡ []
SameNext (t ∷ ts) others = (more : List Token) × (others ≡ t ∷ more)

-- some text begins with the tokens before the offset, none with them and the next token, and none of them is a bracket too many;
-- where no token is next, the tokens are no text
pub record IsSyntax (tokens : List Token) (end at : ℕ) : Type 0 where
  pub before : List Token
  pub rest : List Token
  pub joined : tokens ≡ before ++ rest
  pub here : at ≡ offset end rest
  pub begins : BeginsText before
  pub stuck : (others : List Token) (tree : SpecFile) → SameNext rest others →
      ¬ Grammar (before ++ others) tree
  pub shallow : IsShallow before

-- the first bracket behind which more than 100 are open, where some text begins with the tokens up to and with it
pub record IsTooDeep (tokens : List Token) (at : ℕ) : Type 0 where
  pub before : List Token
  pub bracket : Token
  pub rest : List Token
  pub joined : tokens ≡ before ++ bracket ∷ rest
  pub here : at ≡ bracket.at
  pub opening : opens bracket.kind ≡ true
  pub full : room_behind 100 before ≡ Some 0
  pub begins : BeginsText (before ++ bracket ∷ [])

-- the first bad number of a text with at most 100 brackets open anywhere
pub record IsBadNumber (tokens : List Token) (at : ℕ) : Type 0 where
  pub tree : SpecFile
  pub grammar : Grammar tokens tree
  pub shallow : IsShallow tokens
  pub bad : bad_number tokens ≡ Some at

-- memory ran out, or this is the fault of the tokens
abbrev pub IsFault : List Token → ℕ → SpecError → Type 0
IsFault tokens end (Syntax at) = IsSyntax tokens end at
IsFault tokens end (TooDeep at) = IsTooDeep tokens at
IsFault tokens end (BadNumber at) = IsBadNumber tokens at
IsFault tokens end Memory = ⊤
IsFault tokens end _ = ⊥
