-- Tests and their combinations.
use Rattle.std.proofs.Common.{zero, suc, ◌≡◌, ℕ, Bool, true, false, ◌&&◌, ◌||◌, List, [], ◌∷◌, Some, slice_get, refl, sym}
use Rattle.std.specs.List.{list_any}

pub or_false : (a : Bool) → (a || false) ≡ a
or_false true = refl
or_false false = refl

pub or_true : (b : Bool) → (b || true) ≡ true
or_true true = refl
or_true false = refl

pub or_swap : (a b c : Bool) → (a || (b || c)) ≡ (b || (a || c))
or_swap true true c = refl
or_swap true false c = refl
or_swap false b c = refl

pub or_again : (a c : Bool) → (a || (a || c)) ≡ (a || c)
or_again true c = refl
or_again false c = refl

pub or_middle : (a b c : Bool) → ((a || b) || c) ≡ (b || (a || c))
or_middle true true c = refl
or_middle true false c = refl
or_middle false b c = refl

pub or_assoc : (a b c : Bool) → ((a || b) || c) ≡ (a || (b || c))
or_assoc true b c = refl
or_assoc false b c = refl

pub and_or : (a b c : Bool) → ((a && c) || (b && c)) ≡ ((a || b) && c)
and_or true true true = refl
and_or true true false = refl
and_or true false true = refl
and_or true false false = refl
and_or false b c = refl

pub and_false : (a : Bool) → (a && false) ≡ false
and_false true = refl
and_false false = refl

pub and_true : (a : Bool) → (a && true) ≡ a
and_true true = refl
and_true false = refl

pub right_of_false : (a b : Bool) → (a || b) ≡ false → b ≡ false
right_of_false true b e = cc
right_of_false false b e = e

pub true_left : (a b : Bool) → (a && b) ≡ true → a ≡ true
true_left true b e = refl
true_left false b e = cc

pub true_right : (a b : Bool) → (a && b) ≡ true → b ≡ true
true_right true b e = e
true_right false b e = cc

pub both_true : (a b : Bool) → a ≡ true → b ≡ true → (a && b) ≡ true
both_true a b p q = rw (p, q) refl

-- two tests that hold in the same cases are equal
pub same_test : (a b : Bool) → (a ≡ true → b ≡ true) → (b ≡ true → a ≡ true) → a ≡ b
same_test true true f g = refl
same_test true false f g = sym (f refl)
same_test false true f g = g refl
same_test false false f g = refl

-- x passes, and stands at some place
abbrev pub Passes : {X : Type 0} → (X → Bool) → List X → Type 0
Passes {X} p xs = (k : ℕ) × (x : X) × (slice_get xs k ≡ Some x) × (p x ≡ true)

here_or_later : {X : Type 0} (p : X → Bool) (x : X) (xs : List X) (b : Bool) → p x ≡ b → (list_any p xs ≡ true → Passes p xs) → (b || list_any p xs) ≡ true → Passes p (x ∷ xs)
here_or_later p x xs true is later e = (0, x, refl, is)
here_or_later p x xs false is later e = let found = later e in (suc found.0, found.1, found.2, found.3)

-- what passes stands somewhere
pub place_of_any : {X : Type 0} (p : X → Bool) (xs : List X) → list_any p xs ≡ true → Passes p xs
place_of_any p [] e = cc
place_of_any p (x ∷ xs) e = here_or_later p x xs (p x) refl (place_of_any p xs) e

pub any_of_place : {X : Type 0} (p : X → Bool) (xs : List X) (k : ℕ) (x : X) → slice_get xs k ≡ Some x → p x ≡ true → list_any p xs ≡ true
any_of_place p [] k x at h = cc
any_of_place p (y ∷ ys) zero x at h = let same : y ≡ x = cc in rw (same, h) refl
any_of_place p (y ∷ ys) (suc k) x at h = rw (any_of_place p ys k x at h) (always (p y))
  where
    always : (b : Bool) → (b || true) ≡ true
    always true = refl
    always false = refl
