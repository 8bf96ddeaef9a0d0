-- Phrases: what the tokens at the front of a list spell, in the manner of a grammar.
use Rattle.std.specs.Prelude.{◌≡◌, ◌⊎◌, ℕ, zero, suc, Bool, true, false, List, [], ◌∷◌, ⊤}
use Rattle.rela_lex.specs.declared.token.Token.{Token}

-- a phrase R: by `R a v b` the tokens a, up to the rest b of them, spell the value v
abbrev pub Phrase : Type 0 → Type 1
Phrase A = List Token → A → List Token → Type 0

-- one token, which has this value
abbrev pub token : {A : Type 0} → (Token → A → Type 0) → Phrase A
token Has a v b = (t : Token) × (a ≡ t ∷ b) × Has t v

-- no token, for this value
abbrev pub done : {A : Type 0} → A → Phrase A
done v a w b = (w ≡ v) × (a ≡ b)

-- nothing at all
abbrev pub none : {A : Type 0} → Phrase A
none a v b = ⊥

-- a phrase, and behind it what its value asks for
infixl 10 ◌>>=◌
abbrev pub ◌>>=◌ : {A B : Type 0} → Phrase A → (A → Phrase B) → Phrase B
◌>>=◌ {A} R S a w c = (v : A) × (b : List Token) × R a v b × S v b w c

-- the same where the first value says nothing
infixl 10 ◌>>◌
abbrev pub ◌>>◌ : {B : Type 0} → Phrase (⊤) → Phrase B → Phrase B
R >> S = R >>= (λ _. S)

-- one or the other
infixr 8 ◌or◌
abbrev pub ◌or◌ : {A : Type 0} → Phrase A → Phrase A → Phrase A
(R or S) a v b = R a v b ⊎ S a v b

-- whether the phrase is there
abbrev pub whether : Phrase (⊤) → Phrase Bool
whether R = (R >> done true) or done false

-- the phrase as many times as there are values
abbrev pub many : {A : Type 0} → Phrase A → Phrase (List A)
many R a [] b = a ≡ b
many R a (v ∷ vs) c = (b : List Token) × R a v b × many R b vs c

-- one part alone, or two parts and more joined
abbrev pub joined_parts : {A : Type 0} → (List A → A) → A → List A → A
joined_parts join first [] = first
joined_parts join first (next ∷ others) = join (first ∷ next ∷ others)

-- parts with the same phrase between each two of them
abbrev pub chain : {A : Type 0} → (List A → A) → Phrase (⊤) → Phrase A → Phrase A
chain join between part = do
  first ← part
  others ← many (between >> part)
  done (joined_parts join first others)

-- at most so many brackets are nested: none, or an opening one, and behind it what may nest one less
abbrev pub bracketed : {A : Type 0} → ℕ → Phrase (⊤) → (ℕ → Phrase A) → Phrase A
bracketed zero opening inside = none
bracketed (suc room) opening inside = opening >> inside room
