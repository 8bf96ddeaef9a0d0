-- Elements of lists, and lists that stand at the end or in the middle of others.
use Rattle.std.proofs.Common.{◌≡◌, ℕ, zero, suc, ◌+◌, ◌<◌, ◌⊎◌, List, [], ◌∷◌, ◌++◌, length, get_or, map, refl, ap, ◌∙◌, subst, sym, inl, inr, arith, length-append}
use Rattle.std.specs.List.{Contains, flat_map}
use Rattle.std.proofs.lemmas.List.{get_or-append-add, get_or-map, get_or_append_left, length-map, map-append}
use Rattle.std.proofs.lemmas.List.Elements.{Contains-append_left, Contains-append_right, Contains-append_cases}

pub Contains-nil : {X : Type 0} (x : X) → Contains [] x → ⊥
Contains-nil x c = omega (arith, c.1)

pub Contains-cons_cases : {X : Type 0} (y : X) (xs : List X) (x : X) → Contains (y ∷ xs) x → (y ≡ x) ⊎ Contains xs x
Contains-cons_cases y xs x (zero, below, at) = inl at
Contains-cons_cases y xs x (suc k, below, at) = inr (k, omega (arith, below), at)

pub Contains-map : {X Y : Type 0} (f : X → Y) (xs : List X) (x : X) → Contains xs x → Contains (map f xs) (f x)
Contains-map f xs x c = (c.0, omega (arith, c.1, length-map xs f), get_or-map f xs c.0 x (f x) c.1 ∙ ap f c.2)

pub Contains-map_back : {X Y : Type 0} (f : X → Y) (xs : List X) (y : Y) → Contains (map f xs) y → (x : X) × (f x ≡ y) × Contains xs x
Contains-map_back f [] y c = absurd (Contains-nil y c)
Contains-map_back f (x ∷ xs) y c = elim (Contains-cons_cases (f x) (map f xs) y c) [
  | inl here ↦ (x, here, (0, omega arith, refl))
  | inr later ↦ let found = Contains-map_back f xs y later in (found.0, found.1, (suc found.2.0, omega (arith, found.2.1), found.2.2))
]

-- ---- lists joined end to end

pub in_flat_map : {X Y : Type 0} (f : X → List Y) (xs : List X) (x : X) (y : Y) → Contains xs x → Contains (f x) y → Contains (flat_map f xs) y
in_flat_map f [] x y among here = absurd (Contains-nil x among)
in_flat_map f (z ∷ xs) x y among here = elim (Contains-cons_cases z xs x among) [
  | inl first ↦ Contains-append_left (f z) (flat_map f xs) y (subst (λ u. Contains (f u) y) (sym first) here)
  | inr later ↦ Contains-append_right (f z) (flat_map f xs) y (in_flat_map f xs x y later here)
]

pub from_flat_map : {X Y : Type 0} (f : X → List Y) (xs : List X) (y : Y) → Contains (flat_map f xs) y → (x : X) × Contains xs x × Contains (f x) y
from_flat_map f [] y among = absurd (Contains-nil y among)
from_flat_map f (z ∷ xs) y among = elim (Contains-append_cases (f z) (flat_map f xs) y among) [
  | inl first ↦ (z, (0, omega arith, refl), first)
  | inr later ↦ let found = from_flat_map f xs y later in (found.0, (suc found.1.0, omega (arith, found.1.1), found.1.2), found.2)
]

pub map-flat_map : {X Y Z : Type 0} (h : Y → Z) (f : X → List Y) (g : X → List Z) → ((x : X) → map h (f x) ≡ g x) → (xs : List X) → map h (flat_map f xs) ≡ flat_map g xs
map-flat_map h f g each [] = refl
map-flat_map h f g each (x ∷ xs) = map-append h (f x) (flat_map f xs) ∙ (λ i. each x i ++ map-flat_map h f g each xs i)

-- ---- a list behind so many elements

pub get_or_last : {X : Type 0} (front xs : List X) (by p : ℕ) (d : X) → length front ≡ by → get_or (front ++ xs) (by + p) d ≡ get_or xs p d
get_or_last front xs by p d len = subst (λ n. get_or (front ++ xs) (n + p) d ≡ get_or xs p d) len (get_or-append-add front xs p d)

-- others may follow
pub get_or_block : {X : Type 0} (front xs rest : List X) (by p : ℕ) (d : X) → length front ≡ by → p < length xs → get_or (front ++ xs ++ rest) (by + p) d ≡ get_or xs p d
get_or_block front xs rest by p d len below =
    let in_front : by + p < length (front ++ xs) = omega (arith, length-append front xs) in
    get_or_append_left (front ++ xs) rest d (by + p) in_front ∙ get_or_last front xs by p d len
