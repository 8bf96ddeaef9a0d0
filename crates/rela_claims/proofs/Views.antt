-- Lists through a view of their elements.
use Rattle.std.proofs.Common.{◌≡◌, ℕ, ◌+◌, Bool, ◌||◌, cond, not, List, [], ◌∷◌, ◌++◌, map, refl, ap}
use Rattle.std.specs.List.{list_any, position_or_len}

module _ {A B : Type 0} (f : A → B) where
  pub map_last : (xs : List A) (x : A) → map f (xs ++ x ∷ []) ≡ map f xs ++ f x ∷ []
  map_last [] x = refl
  map_last (y ∷ xs) x = ap (λ (zs : List B). f y ∷ zs) (map_last xs x)

  pub any_of_view : (p : B → Bool) (xs : List A) → list_any p (map f xs) ≡ list_any (λ x. p (f x)) xs
  any_of_view p [] = refl
  any_of_view p (x ∷ xs) = ap (λ (b : Bool). p (f x) || b) (any_of_view p xs)

  pub position_of_view : (p : B → Bool) (xs : List A) → position_or_len p (map f xs) ≡ position_or_len (λ x. p (f x)) xs
  position_of_view p [] = refl
  position_of_view p (x ∷ xs) = ap (λ (n : ℕ). cond (not (p (f x))) (1 + n) 0) (position_of_view p xs)

pub map_of_view : {A B C : Type 0} (g : B → C) (f : A → B) (xs : List A) → map g (map f xs) ≡ map (λ x. g (f x)) xs
map_of_view g f [] = refl
map_of_view {A} {B} {C} g f (x ∷ xs) = ap (λ (zs : List C). g (f x) ∷ zs) (map_of_view g f xs)
