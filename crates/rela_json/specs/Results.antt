-- Steps in order, of which the first refusal is the answer.
use Rattle.std.specs.Prelude.{List, [], ◌∷◌, Option, Some, None, Result, Ok, Err}

infixl 10 ◌>>=◌
abbrev pub ◌>>=◌ : {A B E : Type 0} → Result A E → (A → Result B E) → Result B E
(Ok x) >>= f = f x
(Err e) >>= f = Err e

-- the value, or this refusal where there is none
abbrev pub ok_or : {A E : Type 0} → E → Option A → Result A E
ok_or e None = Err e
ok_or e (Some x) = Ok x

-- what f makes of each, in order
abbrev pub try_map : {A B E : Type 0} → (A → Result B E) → List A → Result (List B) E
try_map f [] = Ok []
try_map f (x ∷ xs) = do
  y ← f x
  ys ← try_map f xs
  Ok (y ∷ ys)

-- f takes each in order, and gives the state for the next
abbrev pub try_fold : {S A E : Type 0} → (S → A → Result S E) → S → List A → Result S E
try_fold f s [] = Ok s
try_fold f s (x ∷ xs) = do
  t ← f s x
  try_fold f t xs
