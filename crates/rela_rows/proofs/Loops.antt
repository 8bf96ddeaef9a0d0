-- A loop that has a result for each element.
use Rattle.std.proofs.Common.{◌≡◌, ℕ, zero, suc, ◌+◌, ◌<◌, List, [], ◌∷◌, ◌++◌, length, map, take, get_or, Result, Ok, Err, IfOk, refl, ap, subst, sym, ◌∙◌, arith}
use Rattle.std.specs.List.{All, AllZip}
use Rattle.std.proofs.lemmas.List.{length-map, take_more, map_push}
use Rattle.std.proofs.lemmas.List.Elements.{All-cons, All-nil, All-push}

-- one more of each
zip_push : {A B : Type 0} (R : A → B → Type 0) (xs : List A) (ys : List B) (x : A) (y : B)
    → AllZip R xs ys → R x y → AllZip R (xs ++ x ∷ []) (ys ++ y ∷ [])
zip_push R [] [] x y each one = (one, tt)
zip_push R [] (b ∷ ys) x y each one = absurd each
zip_push R (a ∷ xs) [] x y each one = absurd each
zip_push R (a ∷ xs) (b ∷ ys) x y each one = (each.0, zip_push R xs ys x y each.1 one)

-- one more element, and its result
pub zip_more : {A B : Type 0} (R : A → B → Type 0) (xs : List A) (ys more : List B) (i : ℕ) (d : A) (y : B)
    → i < length xs → AllZip R (take i xs) ys → more ≡ ys ++ y ∷ [] → R (get_or xs i d) y → AllZip R (take (i + 1) xs) more
zip_more R xs ys more i d y within each e one =
    let next : take (i + 1) xs ≡ take i xs ++ get_or xs i d ∷ [] = take_more xs i d within in
    let pushed : AllZip R (take i xs ++ get_or xs i d ∷ []) (ys ++ y ∷ []) = zip_push R (take i xs) ys (get_or xs i d) y each one in
    rw (next, e) pushed

pub zip_push_at : {A B : Type 0} (R : A → B → Type 0) (xs : List A) (ys : List B) (i : ℕ) (d : A) (y : B)
    → i < length xs → AllZip R (take i xs) ys → R (get_or xs i d) y → AllZip R (take (i + 1) xs) (ys ++ y ∷ [])
zip_push_at R xs ys i d y within each one = zip_more R xs ys (ys ++ y ∷ []) i d y within each refl one

-- what each element of a list has, each of a longer one has, if the new one has it
pub All-more : {X : Type 0} (P : X → Type 0) (xs ys : List X) (x : X) → ys ≡ xs ++ x ∷ [] → All P xs → P x → All P ys
All-more P xs ys x e each one = rw e (All-push P xs x each one)

-- what each of a list is made of, one more
pub map_taken : {X Y : Type 0} (f : X → Y) (xs more : List X) (x : X) (ys : List Y) (i : ℕ) (d : Y)
    → i < length ys → map f xs ≡ take i ys → more ≡ xs ++ x ∷ [] → f x ≡ get_or ys i d → map f more ≡ take (i + 1) ys
map_taken f xs more x ys i d within same e is =
    ap (map f) e ∙ map_push f xs x ∙ ap (λ l. l ++ f x ∷ []) same ∙ ap (λ y. take i ys ++ y ∷ []) is ∙ sym (take_more ys i d within)

-- what each element of a mapped list has, each element has by way of what it is mapped to
pub All-unmap : {X Y : Type 0} (P : Y → Type 0) (f : X → Y) (xs : List X) → All P (map f xs) → All (λ x. P (f x)) xs
All-unmap P f [] each = All-nil (λ x. P (f x))
All-unmap P f (x ∷ xs) each = All-cons (λ x. P (f x)) x xs (each 0 (f x) (omega arith)) (All-unmap P f xs (λ i d inside. each (suc i) d (omega (arith, inside))))

-- what each element of a mapped list has, one of them has by way of what it is mapped to
pub All-mapped_at : {X Y : Type 0} (P : Y → Type 0) (f : X → Y) (xs : List X) (i : ℕ) (x : X) → All P (map f xs) → i < length xs → x ≡ get_or xs i x → P (f x)
All-mapped_at P f xs i x each within is = subst (λ z. P (f z)) (sym is) (All-unmap P f xs each i x within)

map_read : {X Y : Type 0} (f : X → Y) (xs : List X) (i : ℕ) (x : X) → i < length xs → x ≡ get_or xs i x → f x ≡ get_or (map f xs) i (f x)
map_read f [] i x within is = absurd (omega (arith, within))
map_read f (y ∷ xs) zero x within is = ap f is
map_read f (y ∷ xs) (suc i) x within is = map_read f xs i x (omega (arith, within)) is

-- what each of a list is made of, one more, where that is of another list
pub map_taken_from : {X Y Z : Type 0} (f : X → Y) (g : Z → Y) (xs more : List X) (x : X) (zs : List Z) (i : ℕ) (z : Z)
    → i < length zs → z ≡ get_or zs i z → map f xs ≡ take i (map g zs) → more ≡ xs ++ x ∷ [] → f x ≡ g z → map f more ≡ take (i + 1) (map g zs)
map_taken_from f g xs more x zs i z within is same e made =
    map_taken f xs more x (map g zs) i (g z) (omega (arith, within, length-map zs g)) same e (made ∙ map_read g zs i z within is)

-- what holds of a value holds of what follows from it
pub if_ok : {A E : Type 0} (P Q : A → Type 0) (r : Result A E) → ((a : A) → P a → Q a) → IfOk r P → IfOk r Q
if_ok P Q (Ok a) leads holds = leads a holds
if_ok P Q (Err e) leads holds = tt
