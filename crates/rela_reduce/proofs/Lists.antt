-- Lists of lists, and what a list or an option has.
use Rattle.std.proofs.Common.{◌≡◌, ℕ, zero, suc, ◌⊎◌, List, [], ◌∷◌, ◌++◌, length, get_or, map, Option, None, Some, refl, ap, ◌∙◌, subst, inl, inr, arith}
use Rattle.std.specs.List.{All, Contains}
use Rattle.std.proofs.lemmas.List.{get_or-map, length-map}
use Rattle.std.proofs.lemmas.List.Elements.{All-contains_itself, All-weaker, Contains-push_cases}

-- a class is there or not
pub cases_option : {X : Type 0} (o : Option X) → (o ≡ None) ⊎ ((x : X) × (o ≡ Some x))
cases_option None = inl refl
cases_option (Some x) = inr (x, refl)

pub none_some : {X : Type 0} (x : X) → None ≡ Some x → ⊥
none_some x same = cc

-- the list at a place, of lists each of which is mapped; past the end there is none
pub list_of_mapped : {X Y : Type 0} (f : X → Y) (lists : List (List X)) (i : ℕ) → get_or (map (map f) lists) i [] ≡ map f (get_or lists i [])
list_of_mapped f [] i = refl
list_of_mapped f (list ∷ lists) zero = refl
list_of_mapped f (list ∷ lists) (suc i) = list_of_mapped f lists i

pub contains_mapped : {X Y : Type 0} (f : X → Y) (xs : List X) (x : X) → Contains xs x → Contains (map f xs) (f x)
contains_mapped f xs x c = (c.0, omega (arith, c.1, length-map xs f), get_or-map f xs c.0 x (f x) c.1 ∙ ap f c.2)

pub mapped_contains : {X Y : Type 0} (f : X → Y) (xs : List X) (y : Y) → Contains (map f xs) y → (x : X) × (f x ≡ y) × Contains xs x
mapped_contains f [] y c = absurd (omega (arith, c.1))
mapped_contains f (x ∷ xs) y (zero, below, at) = (x, at, (0, omega arith, refl))
mapped_contains f (x ∷ xs) y (suc k, below, at) =
    let found = mapped_contains f xs y (k, omega (arith, below), at) in
    (found.0, found.1, (suc found.2.0, omega (arith, found.2.1), found.2.2))

-- what holds at each place of a list, and of what is pushed, and of what stands past the end, holds at each place of the longer list
pub each_push : {Y : Type 0} (P : ℕ → Y → Type 0) (ys : List Y) (y d : Y) → ((i : ℕ) → P i (get_or ys i d)) → P (length ys) y → ((i : ℕ) → P i d) → (i : ℕ) → P i (get_or (ys ++ y ∷ []) i d)
each_push P [] y d each here past zero = here
each_push P [] y d each here past (suc i) = past (suc i)
each_push P (x ∷ ys) y d each here past zero = each zero
each_push P (x ∷ ys) y d each here past (suc i) = each_push (λ k z. P (suc k) z) ys y d (λ k. each (suc k)) here (λ k. past (suc k)) i

pub none_listed : {Y : Type 0} (y : Y) → Contains [] y → ⊥
none_listed y (k, below, at) = omega (arith, below)

pub all_from_listed : {Y : Type 0} (P : Y → Type 0) (ys : List Y) → ((y : Y) → Contains ys y → P y) → All P ys
all_from_listed P ys each = All-weaker (Contains ys) P each ys (All-contains_itself ys)

-- one element more, of which the same holds
pub listed_push : {X Y : Type 0} (f : X → Y) (first before : List X) (new : X) (ys : List Y) → ((x : X) → Contains before x → Contains first x ⊎ Contains ys (f x)) → Contains ys (f new)
    → (x : X) → Contains (before ++ new ∷ []) x → Contains first x ⊎ Contains ys (f x)
listed_push f first before new ys so_far here x listed = elim (Contains-push_cases before new x listed) [
  | inl old ↦ so_far x old
  | inr same ↦ inr (subst (λ z. Contains ys (f z)) same here)
]
