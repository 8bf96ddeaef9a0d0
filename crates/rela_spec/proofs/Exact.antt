-- What it means that a reading is exact for a phrase.
use Rattle.std.proofs.Common.{◌≡◌, ℕ, ◌<◌, ◌≤◌, Bool, true, false, Option, None, Some, Result, Ok, Err, List, [], ◌∷◌, ◌++◌, refl, sym, ap, subst}
use Rattle.std.specs.Prelude.{⊤}
use Rattle.std.specs.Option.{option_and_then}
use Rattle.rela_lex.specs.declared.error.SpecError.{SpecError}
use Rattle.rela_lex.specs.declared.error.SpecError.TheVariants.{Syntax, TooDeep, Memory}
use Rattle.rela_lex.specs.declared.token.Token.{Token}
use Rattle.rela_lex.specs.declared.token.TokenKind.{TokenKind}
use Rattle.rela_spec.specs.Grammar.{SameNext, offset, opens, room_after, room_behind}
use Rattle.rela_spec.specs.Phrases.{Phrase}
use Rattle.rela_spec.specs.Readings.{Reading, next_is}

-- no token that passes is next
abbrev pub Stops : (TokenKind → Bool) → List Token → Type 0
Stops passes ts = next_is passes ts ≡ false

-- A phrase is read up to `now`: whatever follows, its tokens spell the value; and where the same token follows, they spell no other
-- value and no longer or shorter phrase, unless a token follows that the phrase goes on with.
pub record Read {A : Type 0} (R : ℕ → Phrase A) (goes_on : TokenKind → Bool) (room from to : ℕ) (tokens : List Token) (value : A) (now : List Token) : Type 0 where
  pub before : List Token
  pub joined : tokens ≡ before ++ now
  pub spelled : (d : ℕ) → room ≤ d → (k : List Token) → R d (before ++ k) value k
  pub only : (d : ℕ) (y : List Token) → SameNext now y → (w : A) (b : List Token) → R d (before ++ y) w b → Stops goes_on b → (w ≡ value) × (b ≡ y)
  pub level : room_behind from before ≡ Some to

-- No phrase goes on with the next token, and some phrase begins with the tokens before it.
pub record Stuck {A : Type 0} (R : ℕ → Phrase A) (goes_on : TokenKind → Bool) (room from end : ℕ) (tokens : List Token) (at : ℕ) : Type 0 where
  pub before : List Token
  pub rest : List Token
  pub joined : tokens ≡ before ++ rest
  pub here : at ≡ offset end rest
  pub never : (d : ℕ) (y : List Token) → SameNext rest y → (w : A) (b : List Token) → R d (before ++ y) w b → Stops goes_on b → ⊥
  pub others : List Token
  pub value : A
  pub viable : (d : ℕ) → room < d → (k : List Token) → R d (before ++ (others ++ k)) value k
  pub left : ℕ
  pub level : room_behind from before ≡ Some left

-- A bracket is one too many, and some phrase begins with the tokens up to and with it.
pub record Deep {A : Type 0} (R : ℕ → Phrase A) (room from : ℕ) (tokens : List Token) (at : ℕ) : Type 0 where
  pub before : List Token
  pub bracket : Token
  pub rest : List Token
  pub joined : tokens ≡ before ++ bracket ∷ rest
  pub here : at ≡ bracket.at
  pub opening : opens bracket.kind ≡ true
  pub level : room_behind from before ≡ Some 0
  pub others : List Token
  pub value : A
  pub viable : (d : ℕ) → room < d → (k : List Token) → R d (before ++ bracket ∷ (others ++ k)) value k

abbrev pub Outcome : {A : Type 0} → (ℕ → Phrase A) → (TokenKind → Bool) → (room from to end : ℕ) → List Token → Result (A × List Token) SpecError → Type 0
Outcome R goes_on room from to end tokens (Ok found) = Read R goes_on room from to tokens found.0 found.1
Outcome R goes_on room from to end tokens (Err (Syntax at)) = Stuck R goes_on room from end tokens at
Outcome R goes_on room from to end tokens (Err (TooDeep at)) = Deep R room from tokens at
Outcome R goes_on room from to end tokens (Err Memory) = ⊤
Outcome R goes_on room from to end tokens (Err _) = ⊥

-- some tokens spell the phrase, where that many brackets may be nested
pub record Completed {A : Type 0} (R : ℕ → Phrase A) (least : ℕ) : Type 0 where
  pub others : List Token
  pub value : A
  pub whole : (d : ℕ) → least ≤ d → (k : List Token) → R d (others ++ k) value k

pub record Exact {A : Type 0} (R : ℕ → Phrase A) (goes_on : TokenKind → Bool) (least room from to end : ℕ) (p : Reading A) : Type 0 where
  pub outcome : (tokens : List Token) → Outcome R goes_on room from to end tokens (p tokens)
  pub completed : Completed R least

pub same_after : (m before now y : List Token) → m ≡ before ++ now → SameNext now y → SameNext m (before ++ y)
same_after m [] now y e same = subst (λ (x : List Token). SameNext x y) (sym e) same
same_after m (t ∷ before) now y e same = subst (λ (x : List Token). SameNext x (t ∷ (before ++ y))) (sym e) (before ++ y, refl)

pub same_passes : (passes : TokenKind → Bool) (m y : List Token) → SameNext m y → next_is passes m ≡ next_is passes y
same_passes passes [] y same = ap (next_is passes) (sym same)
same_passes passes (t ∷ m) y same = ap (next_is passes) (sym same.1)

room_on : (xs ys : List Token) (mid : ℕ) (o : Option ℕ) → ((left : ℕ) → room_behind left xs ≡ Some mid → room_behind left (xs ++ ys) ≡ room_behind mid ys)
    → option_and_then (λ left. room_behind left xs) o ≡ Some mid → option_and_then (λ left. room_behind left (xs ++ ys)) o ≡ room_behind mid ys
room_on xs ys mid None go e = absurd (let never = e in cc)
room_on xs ys mid (Some left) go e = go left e

pub room_append : (xs ys : List Token) (from mid : ℕ) → room_behind from xs ≡ Some mid → room_behind from (xs ++ ys) ≡ room_behind mid ys
unfolding room_behind
room_append [] ys from mid e = let same : from ≡ mid = cc in ap (λ (n : ℕ). room_behind n ys) same
room_append (t ∷ xs) ys from mid e = room_on xs ys mid (room_after t.kind from) (λ left h. room_append xs ys left mid h) e

pub nothing_opened : (room : ℕ) → room_behind room [] ≡ Some room
unfolding room_behind
nothing_opened room = refl
