-- Loops that collect results up to the first refusal.
use Rattle.std.proofs.Common.{◌≡◌, ◌∙◌, sym, ap, ℕ, ◌+◌, ◌<◌, ◌≤◌, Bool, true, false, not, List, [], ◌∷◌, ◌++◌, length, map, drop, get_or, Result, Ok, refl, arith}
use Rattle.std.proofs.lemmas.List.{drop_more, length-drop}
use Rattle.rela_json.specs.Results.{◌>>=◌}

-- the results that are left, behind those that are there
abbrev pub with_front : {A E : Type 0} → List A → Result (List A) E → Result (List A) E
with_front front left = left >>= λ xs. Ok (front ++ xs)

pub left_next : {X Y : Type 0} (f : X → Y) (xs : List X) (i : ℕ) (x : X) → i < length xs → x ≡ get_or xs i x → map f (drop i xs) ≡ f x ∷ map f (drop (i + 1) xs)
left_next {X} f xs i x lt is = ap (map f) (drop_more xs i x lt ∙ ap (λ (y : X). y ∷ drop (i + 1) xs) (sym is))

empty_of : {X : Type 0} (xs : List X) → length xs ≡ 0 → xs ≡ []
empty_of [] e = refl
empty_of (x ∷ xs) e = absurd (omega (arith, e))

pub left_none : {X Y : Type 0} (f : X → Y) (xs : List X) (i : ℕ) → length xs ≤ i → map f (drop i xs) ≡ []
left_none f xs i past = ap (map f) (empty_of (drop i xs) (let h = length-drop i xs in omega (arith, h, past)))

-- what a set says of a key that it was given
pub told_known : (b is_new : Bool) → is_new ≡ not b → is_new ≡ false → b ≡ true
told_known true is_new e f = refl
told_known false is_new e f = absurd (cc)

pub told_new : (b is_new : Bool) → is_new ≡ not b → is_new ≡ true → b ≡ false
told_new true is_new e f = absurd (cc)
told_new false is_new e f = refl
