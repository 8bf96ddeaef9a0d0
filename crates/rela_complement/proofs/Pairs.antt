-- Pairs of a list.
use Rattle.std.proofs.Common.{ℕ, ◌<◌, ◌≤◌, List, length, get_or, map, take, sym, subst, arith}
use Rattle.std.specs.List.{All, AllPairs}
use Rattle.std.proofs.lemmas.List.{get_or-map, get_or-take, length-map, length-take-le}

-- those of a list that is mapped
pub pairs_mapped : {X Y : Type 0} (R : Y → Y → Type 0) (f : X → Y) (xs : List X) → X → AllPairs (λ x y. R (f x) (f y)) xs → AllPairs R (map f xs)
pairs_mapped R f xs x pairs i j d before inside =
    let j_in : j < length xs = omega (arith, inside, length-map xs f) in
    let i_in : i < length xs = omega (arith, before, j_in) in
    subst (λ y. R y (get_or (map f xs) j d)) (sym (get_or-map f xs i x d i_in))
    (subst (λ y. R (f (get_or xs i x)) y) (sym (get_or-map f xs j x d j_in)) (pairs i j x before j_in))

pub weaker_pairs : {X : Type 0} (R S : X → X → Type 0) → ((x y : X) → R x y → S x y) → (xs : List X) → AllPairs R xs → AllPairs S xs
weaker_pairs R S on xs pairs i j d before inside = on _ _ (pairs i j d before inside)

-- the same, where something is known of each element
pub pairs_among : {X : Type 0} (P : X → Type 0) (R S : X → X → Type 0) → ((x y : X) → P x → P y → R x y → S x y) → (xs : List X) → All P xs → AllPairs R xs → AllPairs S xs
pairs_among P R S on xs each pairs i j d before inside =
    on (get_or xs i d) (get_or xs j d) (each i d (omega (arith, before, inside))) (each j d inside) (pairs i j d before inside)

-- those of the first of a list
pub first_pairs : {X : Type 0} (R : X → X → Type 0) (xs : List X) (m : ℕ) → m ≤ length xs → AllPairs R xs → AllPairs R (take m xs)
first_pairs R xs m within pairs i j d before inside =
    let j_in : j < m = omega (arith, inside, length-take-le m xs within) in
    let i_in : i < m = omega (arith, before, j_in) in
    subst (λ y. R y (get_or (take m xs) j d)) (sym (get_or-take m xs i d i_in))
    (subst (λ y. R (get_or xs i d) y) (sym (get_or-take m xs j d j_in)) (pairs i j d before (omega (arith, j_in, within))))
