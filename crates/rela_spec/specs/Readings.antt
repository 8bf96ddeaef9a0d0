-- Readings of tokens: what is read at the front of a list, and what is left of it, or the first fault.
use Rattle.std.specs.Prelude.{ℕ, zero, suc, Bool, false, if◌then◌else◌, Option, None, Some, Result, Ok, Err, List, [], ◌∷◌, ◌++◌, length, ⊤}
use Rattle.rela_lex.specs.declared.error.SpecError.{SpecError}
use Rattle.rela_lex.specs.declared.error.SpecError.TheVariants.{Syntax, TooDeep, Memory}
use Rattle.rela_lex.specs.declared.token.Token.{Token}
use Rattle.rela_lex.specs.declared.token.TokenKind.{TokenKind}
use Rattle.rela_spec.specs.Grammar.{is_mark_of}
use Rattle.rela_spec.specs.Phrases.{joined_parts}

abbrev pub Reading : Type 0 → Type 0
Reading A = List Token → Result (A × List Token) SpecError

-- whether there is a next token, and it passes
abbrev pub next_is : (TokenKind → Bool) → List Token → Bool
next_is passes [] = false
next_is passes (t ∷ ts) = passes t.kind

abbrev pub read_done : {A : Type 0} → A → Reading A
read_done v ts = Ok (v, ts)

abbrev pub and_read : {A B : Type 0} → Result (A × List Token) SpecError → (A → Reading B) →
    Result (B × List Token) SpecError
and_read (Ok found) q = q found.0 found.1
and_read (Err e) q = Err e

infixl 10 ◌>>=◌
abbrev pub ◌>>=◌ : {A B : Type 0} → Reading A → (A → Reading B) → Reading B
(p >>= q) ts = and_read (p ts) q

infixl 10 ◌>>◌
abbrev pub ◌>>◌ : {B : Type 0} → Reading ⊤ → Reading B → Reading B
(p >> q) ts = and_read (p ts) (λ _. q)

-- the first reading where the next token passes, else the second
abbrev pub choose : {A : Type 0} → (TokenKind → Bool) → Reading A → Reading A → Reading A
choose passes p q ts = if next_is passes ts then p ts else q ts

abbrev pub token_value : {A : Type 0} → ℕ → List Token → Option A →
    Result (A × List Token) SpecError
token_value at ts (Some v) = Ok (v, ts)
token_value at ts None = Err (Syntax at)

-- one token that has a value
abbrev pub read_token : {A : Type 0} → (Token → Option A) → ℕ → Reading A
read_token value end [] = Err (Syntax end)
read_token value end (t ∷ ts) = token_value t.at ts (value t)

-- an opening bracket, where so many more may be opened
abbrev pub opened : ℕ → ℕ → List Token → Result (⊤ × List Token) SpecError
opened zero at ts = Err (TooDeep at)
opened (suc room) at ts = Ok (tt, ts)

unfoldable pub read_open : ℕ → ℕ → ℕ → Reading ⊤
read_open end byte room [] = Err (Syntax end)
read_open end byte room (t ∷ ts) = if is_mark_of byte t.kind then opened room t.at ts
    else Err (Syntax t.at)

-- as long as the next token passes, at most so many times
abbrev pub read_many : {A : Type 0} → (TokenKind → Bool) → Reading A → ℕ → Reading (List A)
read_many passes p zero = choose passes (λ _. Err Memory) (read_done [])
read_many passes p (suc n) = choose passes (p >>= λ v. read_many passes p n >>= λ vs.
    read_done (v ∷ vs)) (read_done [])

unfoldable pub read_all : {A : Type 0} → (TokenKind → Bool) → Reading A → Reading (List A)
read_all passes p ts = read_many passes p (length ts) ts

-- a part, and more of them as long as the next token passes
abbrev pub read_chain : {A : Type 0} → (List A → A) → (TokenKind → Bool) → Reading A →
    Reading A → Reading A
read_chain join passes next part = part >>= λ first. read_all passes next >>= λ others.
    read_done (joined_parts join first others)

-- the values that are read, behind these
abbrev pub read_onto : {A : Type 0} → List A → Reading (List A) → Reading (List A)
read_onto before p ts = and_read (p ts) (λ vs. read_done (before ++ vs))
