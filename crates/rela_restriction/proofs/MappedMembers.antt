-- The members of a list that is mapped.
use Rattle.std.proofs.Common.{◌≡◌, ℕ, zero, suc, ◌+◌, ◌<◌, List, [], ◌∷◌, ◌++◌, length, get_or, take, map, refl, sym, ap, ◌∙◌, arith}
use Rattle.std.specs.List.{Contains}
use Rattle.std.proofs.lemmas.List.{get_or-map, length-map, map-append, take_more}

pub Contains-map : {X Y : Type 0} (f : X → Y) (xs : List X) (x : X) → Contains xs x → Contains (map f xs) (f x)
Contains-map f xs x c = (c.0, omega (arith, c.1, length-map xs f), get_or-map f xs c.0 x (f x) c.1 ∙ ap f c.2)

pub Contains-map_back : {X Y : Type 0} (f : X → Y) (xs : List X) (y : Y) → Contains (map f xs) y → (x : X) × (f x ≡ y) × Contains xs x
Contains-map_back f [] y c = absurd (omega (arith, c.1))
Contains-map_back f (x ∷ xs) y (zero, below, at) = (x, at, (0, omega arith, refl))
Contains-map_back f (x ∷ xs) y (suc k, below, at) =
    let found = Contains-map_back f xs y (k, omega (arith, below), at) in (found.0, found.1, (suc found.2.0, omega (arith, found.2.1), found.2.2))

-- one element more of a list that is mapped twice
pub twice_more : {E M Y : Type 0} (v : E → M) (f : M → Y) (xs : List E) (i : ℕ) (x : E) (mid new : List Y) → i < length xs → get_or xs i x ≡ x
    → mid ≡ map f (map v (take i xs)) → new ≡ mid ++ f (v x) ∷ [] → new ≡ map f (map v (take (i + 1) xs))
twice_more v f xs i x mid new below at so_far added =
    added ∙ ap (λ l. l ++ f (v x) ∷ []) so_far
    ∙ sym (ap (λ l. map f (map v l)) (take_more xs i x below ∙ ap (λ y. take i xs ++ y ∷ []) at) ∙ ap (map f) (map-append v (take i xs) (x ∷ [])) ∙ map-append f (map v (take i xs)) (v x ∷ []))
