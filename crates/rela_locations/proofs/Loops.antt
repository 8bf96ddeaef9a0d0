-- A loop that collects results up to the first refusal.
use Rattle.std.proofs.Common.{◌≡◌, ◌∙◌, ℕ, ◌+◌, ◌<◌, ◌≤◌, List, [], ◌∷◌, ◌++◌, length, map, drop, get_or, Result, Ok, Err, refl, sym, ap, arith, append_assoc, append-nil}
use Rattle.std.proofs.lemmas.List.{drop_more, length-drop}
use Rattle.rela_json.specs.Results.{◌>>=◌}

-- the results that are left, behind those that are there
abbrev pub with_front : {A E : Type 0} → List A → Result (List A) E → Result (List A) E
with_front front left = left >>= λ xs. Ok (front ++ xs)

-- one more is there
pub front_more : {A E : Type 0} (front new : List A) (x : A) (left rest whole : Result (List A) E)
    → left ≡ (rest >>= λ xs. Ok (x ∷ xs)) → new ≡ front ++ x ∷ [] → with_front front left ≡ whole → with_front new rest ≡ whole
front_more {A} {E} front new x left (Ok xs) whole is made so_far =
    let joined : new ++ xs ≡ front ++ x ∷ xs = ap (λ ys. ys ++ xs) made ∙ append_assoc front (x ∷ []) xs in
    ap (λ ys. Ok ys) joined ∙ sym (ap (with_front front) is) ∙ so_far
front_more {A} {E} front new x left (Err e) whole is made so_far = sym (ap (with_front front) is) ∙ so_far

pub front_refused : {A E : Type 0} (front : List A) (left whole : Result (List A) E) (e : E)
    → left ≡ Err e → with_front front left ≡ whole → whole ≡ Err e
front_refused front left whole e is so_far = sym so_far ∙ ap (with_front front) is

pub front_all : {A E : Type 0} (front : List A) (left whole : Result (List A) E)
    → left ≡ Ok [] → with_front front left ≡ whole → whole ≡ Ok front
front_all front left whole is so_far = sym so_far ∙ ap (with_front front) is ∙ ap (λ ys. Ok ys) (append-nil front)

-- what is left of a list
pub left_next : {X Y : Type 0} (f : X → Y) (xs : List X) (i : ℕ) (x : X)
    → i < length xs → x ≡ get_or xs i x → map f (drop i xs) ≡ f x ∷ map f (drop (i + 1) xs)
left_next {X} f xs i x lt is = ap (map f) (drop_more xs i x lt ∙ ap (λ (y : X). y ∷ drop (i + 1) xs) (sym is))

empty_of : {X : Type 0} (xs : List X) → length xs ≡ 0 → xs ≡ []
empty_of [] e = refl
empty_of (x ∷ xs) e = absurd (omega (arith, e))

pub left_none : {X Y : Type 0} (f : X → Y) (xs : List X) (i : ℕ) → length xs ≤ i → map f (drop i xs) ≡ []
left_none f xs i past = ap (map f) (empty_of (drop i xs) (let h = length-drop i xs in omega (arith, h, past)))
