-- The tokens of a text that a reader has still to hand out, and what it takes off their front.
use Rattle.std.specs.Prelude.{◌≡◌, ℕ, List, ◌∷◌, Bool, true, false, Some}
use Rattle.json.specs.Token as json
use Rattle.json.specs.Lex.{Place, after_value, between, fresh, lex, may_begin, punctuate, token}
use Rattle.serde_json.specs.Data.{unsigned}
use Rattle.serde_json.specs.Read.{number_of}
use Rattle.rela_tokens.specs.declared.reader.Token.{Token}
use Rattle.rela_tokens.specs.declared.reader.Token.TheVariants.{BeginObject, EndObject, BeginArray, EndArray, Key, String, Number}

-- the tokens of a text that follows a value, or else an opening or the colon behind a key
abbrev pub tokens_from : Bool → List ℕ → List json.Token
tokens_from true text = punctuate after_value (lex between text)
tokens_from false text = punctuate fresh (lex between text)

-- these are the tokens of a text where a value or a key may begin
abbrev pub BeginsWith : List json.Token → List ℕ → Type 0
BeginsWith ts text = (p : Place) × (may_begin p ≡ true) × (ts ≡ punctuate p (lex between text))

-- `old` begins with a number whose text writes n, and `new` follows it
abbrev pub TakesNumber : List json.Token → ℕ → List json.Token → Type 0
TakesNumber old n new = (s : List ℕ) × (old ≡ json.number s ∷ new) × (number_of s ≡ Some (unsigned n))

-- the same of texts
abbrev pub WritesNumber : List ℕ → ℕ → List ℕ → Type 0
WritesNumber old n new = (s : List ℕ) × (lex between old ≡ token (json.number s) ∷ lex between new) × (number_of s ≡ Some (unsigned n))

-- `old` begins with this token, and `new` follows it
abbrev pub Takes : List json.Token → Token → List json.Token → Type 0
Takes old BeginObject new = old ≡ json.begin_object ∷ new
Takes old EndObject new = old ≡ json.end_object ∷ new
Takes old BeginArray new = old ≡ json.begin_array ∷ new
Takes old EndArray new = old ≡ json.end_array ∷ new
Takes old (Key s) new = old ≡ json.key s.now ∷ new
Takes old (String s) new = old ≡ json.string s.now ∷ new
Takes old (Number n) new = TakesNumber old n new
