-- Readings of single tokens.
use Rattle.std.specs.Prelude.{ℕ, Bool, true, false, not, if◌then◌else◌, Option, None, Some, List, ⊤}
use Rattle.std.specs.Str.{bytes_eq}
use Rattle.rela_lex.specs.declared.token.Token.{Token}
use Rattle.rela_lex.specs.declared.token.TokenKind.{TokenKind}
use Rattle.rela_lex.specs.declared.token.TokenKind.TheVariants.{Bare, Quoted, Reference}
use Rattle.rela_flows.specs.Written.{prefix_of}
use Rattle.rela_flows.specs.declared.prefix.Prefix.{Prefix}
use Rattle.rela_spec.specs.Grammar.{is_mark_of}
use Rattle.rela_spec.specs.GrammarWords.{Named, is_number, number_of}
use Rattle.rela_spec.specs.Keywords.{is_keyword}
use Rattle.rela_spec.specs.Readings.{Reading, choose, read_done, read_token, ◌>>◌}

abbrev pub is_word_of : List ℕ → TokenKind → Bool
is_word_of bytes (Bare name) = bytes_eq name bytes
is_word_of bytes _ = false

abbrev pub is_name_kind : TokenKind → Bool
is_name_kind (Bare name) = not (is_keyword name)
is_name_kind (Quoted name) = true
is_name_kind _ = false

abbrev pub is_reference_kind : TokenKind → Bool
is_reference_kind (Reference name) = true
is_reference_kind _ = false

abbrev pub if_so : {A : Type 0} → A → Bool → Option A
if_so v b = if b then Some v else None

abbrev pub mark_value : ℕ → Token → Option ⊤
mark_value byte t = if_so tt (is_mark_of byte t.kind)

abbrev pub word_value : List ℕ → Token → Option ⊤
word_value bytes t = if_so tt (is_word_of bytes t.kind)

abbrev pub named : ℕ → List ℕ → Named
named at name = record { name = name; at = at }

abbrev pub name_in : ℕ → TokenKind → Option Named
name_in at (Bare name) = if_so (named at name) (not (is_keyword name))
name_in at (Quoted name) = Some (named at name)
name_in at _ = None

abbrev pub reference_in : ℕ → TokenKind → Option Named
reference_in at (Reference name) = Some (named at name)
reference_in at _ = None

abbrev pub number_in : TokenKind → Option ℕ
number_in (Bare w) = if_so (number_of w) (is_number w)
number_in _ = None

abbrev pub prefix_in : TokenKind → Option Prefix
prefix_in (Bare w) = prefix_of w
prefix_in _ = None

unfoldable pub read_mark : ℕ → ℕ → Reading ⊤
read_mark end byte = read_token (mark_value byte) end

unfoldable pub read_word : ℕ → List ℕ → Reading ⊤
read_word end bytes = read_token (word_value bytes) end

unfoldable pub read_name : ℕ → Reading Named
read_name end = read_token (λ t. name_in t.at t.kind) end

unfoldable pub read_reference : ℕ → Reading Named
read_reference end = read_token (λ t. reference_in t.at t.kind) end

unfoldable pub read_number : ℕ → Reading ℕ
read_number end = read_token (λ t. number_in t.kind) end

unfoldable pub read_prefix : ℕ → Reading Prefix
read_prefix end = read_token (λ t. prefix_in t.kind) end

-- whether the mark, or the word, is next; it is passed if it is
abbrev pub whether_mark : ℕ → ℕ → Reading Bool
whether_mark end byte = choose (is_mark_of byte) (read_mark end byte >> read_done true)
    (read_done false)

abbrev pub whether_word : ℕ → List ℕ → Reading Bool
whether_word end bytes = choose (is_word_of bytes) (read_word end bytes >> read_done true)
    (read_done false)
