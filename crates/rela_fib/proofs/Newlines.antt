-- A newline behind printed tokens changes nothing.
use Rattle.std.proofs.Common.{◌≡◌, ◌∙◌, refl, sym, ap, ap₂, ℕ, Bool, true, false, cond, ◌&&◌, List, [], ◌∷◌, ◌++◌, append_assoc, append-nil}
use Rattle.json.specs.Token.{Token, begin_object, end_object, begin_array, end_array, key, string, number, boolean, null, bad}
use Rattle.json.specs.Word.{ends_word, word}
use Rattle.json.specs.Lex.{Lexeme, token, comma, colon, string_token, lex, between, fresh, punctuate, tokens}
use Rattle.json.specs.Print.{escape, quoted, token_text, begins, ends, separator, print_from, print, IsPrintable, ArePrintable}
use Rattle.json.proofs.Printed.Strings.{content-escape, lex-escape}
use Rattle.json.proofs.Printed.Numbers.{lex-number, in_word-ended}
use Rattle.json.proofs.Printed.Tokens.{tokens-print}

abbrev token_lexemes : Token → List Lexeme
token_lexemes begin_object = token begin_object ∷ []
token_lexemes end_object = token end_object ∷ []
token_lexemes begin_array = token begin_array ∷ []
token_lexemes end_array = token end_array ∷ []
token_lexemes (key s) = token (string s) ∷ colon ∷ []
token_lexemes (string s) = token (string s) ∷ []
token_lexemes (number s) = token (number s) ∷ []
token_lexemes (boolean b) = token (boolean b) ∷ []
token_lexemes null = token null ∷ []
token_lexemes bad = []

lex_quoted : (s r : List ℕ) → lex between (quoted s ++ r) ≡ token (string s) ∷ lex between r
unfolding lex
lex_quoted s r = ap (λ l. lex between (34 ∷ l)) (append_assoc (escape s) (34 ∷ []) r) ∙ ap₂ (λ o l. token (string_token o) ∷ l) (content-escape s r) (lex-escape s r)

lex_text : (t : Token) (r : List ℕ) → IsPrintable t → (ends t ≡ true → ends_word r ≡ true) → lex between (token_text t ++ r) ≡ token_lexemes t ++ lex between r
unfolding lex word
lex_text begin_object r h ended = refl
lex_text end_object r h ended = refl
lex_text begin_array r h ended = refl
lex_text end_array r h ended = refl
lex_text (key s) r h ended = ap (lex between) (append_assoc (quoted s) (58 ∷ []) r) ∙ lex_quoted s (58 ∷ r)
lex_text (string s) r h ended = lex_quoted s r
lex_text (number s) r h ended = lex-number s r h (ended refl)
lex_text (boolean true) r h ended = ap₂ (λ b l. token (cond b (boolean true) bad) ∷ l) (ended refl) (in_word-ended r (ended refl))
lex_text (boolean false) r h ended = ap₂ (λ b l. token (cond b (boolean false) bad) ∷ l) (ended refl) (in_word-ended r (ended refl))
lex_text null r h ended = ap₂ (λ b l. token (cond b null bad) ∷ l) (ended refl) (in_word-ended r (ended refl))
lex_text bad r h ended = absurd h

lex_separator : (b : Bool) (r : List ℕ) → lex between (cond b (44 ∷ []) [] ++ r) ≡ cond b (comma ∷ []) [] ++ lex between r
unfolding lex
lex_separator true r = refl
lex_separator false r = refl

-- after a value stands a comma, a closing bracket or the end
value_ends : (ts : List Token) (end : List ℕ) → ends_word end ≡ true → ends_word (print_from true ts ++ end) ≡ true
unfolding print_from
value_ends [] end h = h
value_ends (begin_object ∷ ts) end h = refl
value_ends (end_object ∷ ts) end h = refl
value_ends (begin_array ∷ ts) end h = refl
value_ends (end_array ∷ ts) end h = refl
value_ends (key s ∷ ts) end h = refl
value_ends (string s ∷ ts) end h = refl
value_ends (number s ∷ ts) end h = refl
value_ends (boolean b ∷ ts) end h = refl
value_ends (null ∷ ts) end h = refl
value_ends (bad ∷ ts) end h = refl

abbrev lexemes : Bool → List Token → List Lexeme
lexemes c [] = []
lexemes c (t ∷ ts) = cond (c && begins t) (comma ∷ []) [] ++ (token_lexemes t ++ lexemes (ends t) ts)

-- what the lexer gives for printed tokens before an end that has no lexeme
lex_before : (end : List ℕ) → ends_word end ≡ true → lex between end ≡ [] → (c : Bool) (ts : List Token) → ArePrintable ts → lex between (print_from c ts ++ end) ≡ lexemes c ts
unfolding print_from ArePrintable
lex_before end ended none c [] h = none
lex_before end ended none c (t ∷ ts) h =
    let rest : List ℕ = print_from (ends t) ts in
    ap (lex between) (append_assoc (separator c t) (token_text t ++ rest) end ∙ ap (λ (s : List ℕ). separator c t ++ s) (append_assoc (token_text t) rest end))
    ∙ lex_separator (c && begins t) (token_text t ++ (rest ++ end))
    ∙ ap (λ (ls : List Lexeme). cond (c && begins t) (comma ∷ []) [] ++ ls)
    (lex_text t (rest ++ end) h.0 (λ e. ap (λ b. ends_word (print_from b ts ++ end)) e ∙ value_ends ts end ended)
    ∙ ap (λ (ls : List Lexeme). token_lexemes t ++ ls) (lex_before end ended none (ends t) ts h.1))

lex_none : lex between [] ≡ []
unfolding lex
lex_none = refl

lex_newline : lex between (10 ∷ []) ≡ []
unfolding lex
lex_newline = refl

pub tokens_line : (ts : List Token) → ArePrintable ts → tokens (print ts ++ 10 ∷ []) ≡ ts
tokens_line ts h =
    ap (punctuate fresh) (lex_before (10 ∷ []) refl lex_newline false ts h ∙ sym (lex_before [] refl lex_none false ts h))
    ∙ ap tokens (append-nil (print ts)) ∙ tokens-print ts h
