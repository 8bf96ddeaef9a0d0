-- What is in a list, told by recursion on it, and what steps in order make of its elements.
use Rattle.std.proofs.Common.{◌≡◌, ℕ, ◌+◌, ◌<◌, ◌≤◌, zero, suc, ◌⊎◌, inl, inr, Bool, true, false, ◌&&◌, ◌||◌, cond, List, [], ◌∷◌, length, Option, None, Some, Result, Ok, Err, refl, ap, sym, subst, ◌∙◌, arith}
use Rattle.std.specs.List.{Contains, filter, find, list_any, position_or_len, range_with_len}
use Rattle.std.specs.Prelude.{slice_get}
use Rattle.std.proofs.lemmas.Bool.{cases_lt}
use Rattle.std.proofs.lemmas.List.Folds.{find_at}
use Rattle.rela_json.specs.Results.{◌>>=◌, ok_or, try_map}

pub and_left : (a b : Bool) → (a && b) ≡ true → a ≡ true
and_left true b h = refl
and_left false b h = h

pub and_right : (a b : Bool) → (a && b) ≡ true → b ≡ true
and_right true b h = h
and_right false b h = cc

pub from_ok : {A E : Type 0} (a b : A) → ◌≡◌ {A = Result A E} (Ok a) (Ok b) → a ≡ b
from_ok a b is = cc

-- a step after another that has a value
pub bound : {A B E : Type 0} (r : Result A E) (f : A → Result B E) (b : B) → (r >>= f) ≡ Ok b → (a : A) × (r ≡ Ok a) × (f a ≡ Ok b)
bound (Ok a) f b is = (a, refl, is)
bound (Err e) f b is = absurd (cc)

pub present : {A E : Type 0} (e : E) (o : Option A) (a : A) → ok_or e o ≡ Ok a → o ≡ Some a
present e None a is = absurd (cc)
present e (Some b) a is = ap Some (from_ok b a is)

abbrev pub Has : {X : Type 0} → List X → X → Type 0
Has [] y = ⊥
Has (x ∷ xs) y = (x ≡ y) ⊎ Has xs y

pub has : {X : Type 0} (xs : List X) (y : X) → Contains xs y → Has xs y
has [] y c = absurd (omega (arith, c.1))
has (x ∷ xs) y (zero, inside, at) = inl at
has (x ∷ xs) y (suc k, inside, at) = inr (has xs y (k, omega arith, at))

pub contains : {X : Type 0} (xs : List X) (y : X) → Has xs y → Contains xs y
contains [] y h = absurd h
contains (x ∷ xs) y (inl is) = (0, omega arith, is)
contains (x ∷ xs) y (inr h) =
    let c = contains xs y h in
    let inside : c.0 < length xs = c.1 in (suc c.0, omega arith, c.2)

module _ {X : Type 0} (p : X → Bool) where
  pub some_passes : (xs : List X) → list_any p xs ≡ true → (x : X) × Has xs x × (p x ≡ true)
  some_passes [] h = absurd (cc)
  some_passes (x ∷ xs) h = by_test (p x) refl h (some_passes xs)
    where
      by_test : (b : Bool) → p x ≡ b → (b || list_any p xs) ≡ true → (list_any p xs ≡ true → (y : X) × Has xs y × (p y ≡ true)) → (y : X) × Has (x ∷ xs) y × (p y ≡ true)
      by_test true is h rest = (x, inl refl, is)
      by_test false is h rest = let y = rest h in (y.0, inr y.1, y.2)

  pub passes_some : (xs : List X) (x : X) → Has xs x → p x ≡ true → list_any p xs ≡ true
  passes_some [] x h is = absurd h
  passes_some (y ∷ ys) x (inl same) is = ap (λ (b : Bool). b || list_any p ys) (ap p same ∙ is)
  passes_some (y ∷ ys) x (inr h) is = by_test (p y) (passes_some ys x h is)
    where
      by_test : (b : Bool) → list_any p ys ≡ true → (b || list_any p ys) ≡ true
      by_test true rest = refl
      by_test false rest = rest

  pub kept : (xs : List X) (y : X) → Has (filter p xs) y → Has xs y × (p y ≡ true)
  kept [] y h = absurd h
  kept (x ∷ xs) y h = by_test (p x) refl h (kept xs y)
    where
      by_test : (b : Bool) → p x ≡ b → Has (cond b (x ∷ filter p xs) (filter p xs)) y → (Has (filter p xs) y → Has xs y × (p y ≡ true)) → Has (x ∷ xs) y × (p y ≡ true)
      by_test true is (inl same) rest = (inl same, sym (ap p same) ∙ is)
      by_test true is (inr h) rest = (inr (rest h).0, (rest h).1)
      by_test false is h rest = (inr (rest h).0, (rest h).1)

  pub keeps : (xs : List X) (y : X) → Has xs y → p y ≡ true → Has (filter p xs) y
  keeps [] y h is = absurd h
  keeps (x ∷ xs) y (inl same) is = subst (λ (b : Bool). Has (cond b (x ∷ filter p xs) (filter p xs)) y) (sym (ap p same ∙ is)) (inl same)
  keeps (x ∷ xs) y (inr h) is = by_test (p x) (keeps xs y h is)
    where
      by_test : (b : Bool) → Has (filter p xs) y → Has (cond b (x ∷ filter p xs) (filter p xs)) y
      by_test true h = inr h
      by_test false h = h

  found : (xs : List X) → list_any p xs ≡ true → (x : X) × (find p xs ≡ Some x) × (p x ≡ true)
  found [] h = absurd (cc)
  found (x ∷ xs) h = by_test (p x) refl h (found xs)
    where
      by_test : (b : Bool) → p x ≡ b → (b || list_any p xs) ≡ true → (list_any p xs ≡ true → (y : X) × (find p xs ≡ Some y) × (p y ≡ true))
          → (y : X) × (cond b (Some x) (find p xs) ≡ Some y) × (p y ≡ true)
      by_test true is h rest = (x, refl, is)
      by_test false is h rest = rest h

  -- at the first place that passes stands an element that does
  pub first_at : (xs : List X) → list_any p xs ≡ true → (x : X) × (slice_get xs (position_or_len p xs) ≡ Some x) × (p x ≡ true)
  first_at xs h = let f = found xs h in (f.0, sym (find_at p xs) ∙ f.1, f.2)

pub in_range : (a n s : ℕ) → Has (range_with_len a n) s → (a ≤ s) × (s < a + n)
in_range a zero s h = absurd h
in_range a (suc n) s (inl same) = (omega arith, omega arith)
in_range a (suc n) s (inr h) = let r = in_range (a + 1) n s h in (omega (arith, r.0), omega (arith, r.1))

pub range_has : (a n s : ℕ) → a ≤ s → s < a + n → Has (range_with_len a n) s
range_has a zero s low high = absurd (omega arith)
range_has a (suc n) s low high = elim (cases_lt a s) [ inl below ↦ inr (range_has (a + 1) n s (omega arith) (omega arith)) | inr above ↦ inl (omega arith) ]

module _ {A B E : Type 0} (f : A → Result B E) where
  -- the first, and the others
  pub parts_of : (x : A) (xs : List A) (ys : List B) → try_map f (x ∷ xs) ≡ Ok ys → (z : B) × (zs : List B) × (f x ≡ Ok z) × (try_map f xs ≡ Ok zs) × (z ∷ zs ≡ ys)
  parts_of x xs ys is =
      let first = bound (f x) (λ z. try_map f xs >>= (λ zs. Ok (z ∷ zs))) ys is in
      let rest = bound (try_map f xs) (λ zs. Ok (first.0 ∷ zs)) ys first.2 in (first.0, rest.0, first.1, rest.1, from_ok (first.0 ∷ rest.0) ys rest.2)

  comes_from : (x : A) (xs : List A) (z : B) (zs : List B) (y : B) → f x ≡ Ok z → (Has zs y → (w : A) × Has xs w × (f w ≡ Ok y)) → Has (z ∷ zs) y → (w : A) × Has (x ∷ xs) w × (f w ≡ Ok y)
  comes_from x xs z zs y is rest (inl same) = (x, inl refl, is ∙ ap Ok same)
  comes_from x xs z zs y is rest (inr h) = let w = rest h in (w.0, inr w.1, w.2)

  pub image_of : (xs : List A) (ys : List B) → try_map f xs ≡ Ok ys → (y : B) → Has ys y → (x : A) × Has xs x × (f x ≡ Ok y)
  image_of [] ys is y h = absurd (subst (λ (zs : List B). Has zs y) (sym (from_ok [] ys is)) h)
  image_of (x ∷ xs) ys is y h =
      let parts = parts_of x xs ys is in
      comes_from x xs parts.0 parts.1 y parts.2 (image_of xs parts.1 parts.3 y) (subst (λ (zs : List B). Has zs y) (sym parts.4) h)

  comes_to : (z x : A) (xs : List A) (v : B) (vs : List B) → f z ≡ Ok v → (Has xs x → (y : B) × Has vs y × (f x ≡ Ok y)) → Has (z ∷ xs) x → (y : B) × Has (v ∷ vs) y × (f x ≡ Ok y)
  comes_to z x xs v vs is rest (inl same) = (v, inl refl, ap f (sym same) ∙ is)
  comes_to z x xs v vs is rest (inr h) = let y = rest h in (y.0, inr y.1, y.2)

  pub has_image : (xs : List A) (ys : List B) → try_map f xs ≡ Ok ys → (x : A) → Has xs x → (y : B) × Has ys y × (f x ≡ Ok y)
  has_image [] ys is x h = absurd h
  has_image (z ∷ xs) ys is x h =
      let parts = parts_of z xs ys is in
      subst (λ (us : List B). (y : B) × Has us y × (f x ≡ Ok y)) parts.4 (comes_to z x xs parts.0 parts.1 parts.2 (has_image xs parts.1 parts.3 x) h)
