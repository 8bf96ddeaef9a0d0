-- What a list contains.
use Rattle.std.proofs.Common.{◌≡◌, ℕ, zero, suc, ◌+◌, ◌<◌, ◌≤◌, ◌⊎◌, List, [], ◌∷◌, ◌++◌, length, get_or, map, take, Option, None, Some, true, false, refl, sym, ap, ◌∙◌, subst, inl, inr, arith}
use Rattle.std.specs.Option.{is_some}
use Rattle.std.specs.List.{Contains}
use Rattle.std.proofs.lemmas.Bool.{true≢false, false≢true}
use Rattle.std.proofs.lemmas.List.{get_or-map, length-map, take_more, take_all}
use Rattle.std.proofs.lemmas.List.Elements.{Contains-push, Contains-push_cases, Contains-append_left}

pub Contains-nil : {X : Type 0} (x : X) → Contains [] x → ⊥
Contains-nil x c = omega (arith, c.1)

pub Contains-cons_cases : {X : Type 0} (y : X) (xs : List X) (x : X) → Contains (y ∷ xs) x → (y ≡ x) ⊎ Contains xs x
Contains-cons_cases y xs x (zero, below, at) = inl at
Contains-cons_cases y xs x (suc k, below, at) = inr (k, omega (arith, below), at)

pub Contains-one : {X : Type 0} (y x : X) → Contains (y ∷ []) x → y ≡ x
Contains-one y x c = elim (Contains-cons_cases y [] x c) [ inl same ↦ same | inr none ↦ absurd (Contains-nil x none) ]

pub Contains-head : {X : Type 0} (x : X) (xs : List X) → Contains (x ∷ xs) x
Contains-head x xs = (0, omega arith, refl)

pub Contains-map : {X Y : Type 0} (f : X → Y) (xs : List X) (x : X) → Contains xs x → Contains (map f xs) (f x)
Contains-map f xs x c = (c.0, omega (arith, c.1, length-map xs f), get_or-map f xs c.0 x (f x) c.1 ∙ ap f c.2)

pub Contains-map_back : {X Y : Type 0} (f : X → Y) (xs : List X) (y : Y) → Contains (map f xs) y → (x : X) × (f x ≡ y) × Contains xs x
Contains-map_back f [] y c = absurd (Contains-nil y c)
Contains-map_back f (x ∷ xs) y c = elim (Contains-cons_cases (f x) (map f xs) y c) [
  | inl here ↦ (x, here, (0, omega arith, refl))
  | inr later ↦ let found = Contains-map_back f xs y later in (found.0, found.1, (suc found.2.0, omega (arith, found.2.1), found.2.2))
]

-- the first of a list, and one more
module _ {X : Type 0} (xs : List X) (i : ℕ) (x : X) (below : i < length xs) (is : x ≡ get_or xs i x) where
  pub take_one_more : take (i + 1) xs ≡ take i xs ++ x ∷ []
  take_one_more = take_more xs i x below ∙ ap (λ y. take i xs ++ y ∷ []) (sym is)

  pub taken_cases : (y : X) → Contains (take (i + 1) xs) y → Contains (take i xs) y ⊎ (x ≡ y)
  taken_cases y c = Contains-push_cases (take i xs) x y (subst (λ (l : List X). Contains l y) take_one_more c)

  pub taken_before : (y : X) → Contains (take i xs) y → Contains (take (i + 1) xs) y
  taken_before y c = subst (λ (l : List X). Contains l y) (sym take_one_more) (Contains-append_left (take i xs) (x ∷ []) y c)

  pub taken_last : Contains (take (i + 1) xs) x
  taken_last = subst (λ (l : List X). Contains l x) (sym take_one_more) (Contains-push (take i xs) x)

pub taken_all : {X : Type 0} (xs : List X) (i : ℕ) (x : X) → length xs ≤ i → Contains xs x → Contains (take i xs) x
taken_all {X = X} xs i x over c = subst (λ (l : List X). Contains l x) (sym (take_all i xs over)) c

pub taken_within : {X : Type 0} (xs : List X) (i : ℕ) (x : X) → length xs ≤ i → Contains (take i xs) x → Contains xs x
taken_within {X = X} xs i x over c = subst (λ (l : List X). Contains l x) (take_all i xs over) c

pub none_from : {X : Type 0} (o : Option X) → is_some o ≡ false → o ≡ None
none_from None e = refl
none_from (Some x) e = absurd (true≢false e)

pub some_from : {X : Type 0} (o : Option X) → is_some o ≡ true → (x : X) × (o ≡ Some x)
some_from None e = absurd (false≢true e)
some_from (Some x) e = (x, refl)
