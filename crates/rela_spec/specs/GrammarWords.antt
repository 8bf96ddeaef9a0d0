-- The single tokens of the grammar.
use Rattle.std.specs.Prelude.{◌≡◌, ◌⊎◌, ℕ, Bool, true, false, ◌&&◌, if◌then◌else◌, List, length, nat_le, nat_lt, not, slice_index, ◌==◌, ⊤}
use Rattle.std.specs.Char.{is_ascii_digit}
use Rattle.std.specs.List.{list_all}
use Rattle.std.specs.Str.Parse.{digits_value}
use Rattle.rela_lex.specs.declared.token.TokenKind.TheVariants.{Mark, Bare, Quoted, Reference}
use Rattle.rela_flows.specs.Notation.{IsTextOf}
use Rattle.rela_flows.specs.declared.prefix.Prefix.{Prefix}
use Rattle.rela_spec.specs.Keywords.{is_keyword}
use Rattle.rela_spec.specs.Phrases.{Phrase, token}

-- the token is this mark
abbrev pub mark : ℕ → Phrase (⊤)
mark byte = token λ t _. t.kind ≡ Mark byte

-- the token is this word, and bare
abbrev pub word : List ℕ → Phrase (⊤)
word bytes = token λ t _. t.kind ≡ Bare bytes

-- a name, and how many bytes of the text stand before its token
pub record Named : Type 0 where
  pub name : List ℕ
  pub at : ℕ

-- a quoted word, or a bare word that is no keyword
abbrev pub name : Phrase Named
name = token λ t n. (n.at ≡ t.at) × ((t.kind ≡ Quoted n.name)
    ⊎ ((t.kind ≡ Bare n.name) × (is_keyword n.name ≡ false)))

abbrev pub reference : Phrase Named
reference = token λ t n. (n.at ≡ t.at) × (t.kind ≡ Reference n.name)

abbrev pub is_number : List ℕ → Bool
is_number w = list_all is_ascii_digit w

abbrev pub has_leading_zero : List ℕ → Bool
has_leading_zero w = nat_lt 1 (length w) && slice_index w 0 == 48

-- at most 64, and with no leading zero but in `0` itself
abbrev pub is_good_number : List ℕ → Bool
is_good_number w = nat_le (digits_value 10 w) 64 && not (has_leading_zero w)

-- the number that the digits write, and 0 for a bad one
abbrev pub number_of : List ℕ → ℕ
number_of w = if is_good_number w then digits_value 10 w else 0

-- a bare word of digits
abbrev pub number : Phrase ℕ
number = token λ t n. (w : List ℕ) × (t.kind ≡ Bare w) × (is_number w ≡ true) × (n ≡ number_of w)

-- a bare word that writes a prefix
abbrev pub prefix : Phrase Prefix
prefix = token λ t p. (w : List ℕ) × (t.kind ≡ Bare w) × IsTextOf w p
