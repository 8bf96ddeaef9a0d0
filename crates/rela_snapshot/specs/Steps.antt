-- Steps in order, some of which are told by a relation to their result. The first refusal is the answer.
use Rattle.std.specs.Prelude.{◌≡◌, Result, Ok, Err}

-- a step that has a value
abbrev pub Is : {A : Type 0} → A → A → Type 0
Is x r = r ≡ x

-- the next step, or the refusal again
abbrev pub After : {A B E : Type 0} → (A → Result B E → Type 0) → Result A E → Result B E → Type 0
After Next (Ok x) r = Next x r
After Next (Err e) r = r ≡ Err e

infixl 10 ◌>>=◌
abbrev pub ◌>>=◌ : {A B E : Type 0} → (Result A E → Type 0) → (A → Result B E → Type 0) →
    Result B E → Type 0
◌>>=◌ {A} {B} {E} Step Next r = (x : Result A E) × Step x × After Next x r

-- r is what the steps answer, and nothing else is
pub record IsAnswer {A : Type 0} (Steps : A → Type 0) (r : A) : Type 0 where
  pub answers : Steps r
  pub alone : (s : A) → Steps s → s ≡ r
