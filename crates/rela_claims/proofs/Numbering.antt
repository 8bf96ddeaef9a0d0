-- Classes and their numbers in a table that has each once.
use Rattle.std.proofs.Common.{zero, suc, ◌≡◌, ℕ, ◌+◌, ◌<◌, ◌⊎◌, inl, inr, Bool, true, false, cond, ◌&&◌, ◌||◌, eqb, List, [], ◌∷◌, ◌++◌, length, fold, Some, refl, ap, ap₂, sym, subst, ◌∙◌, arith}
use Rattle.std.specs.Prelude.{if◌then◌else◌, not, slice_get}
use Rattle.std.specs.List.{Contains, list_any}
use Rattle.std.specs.Str.{bytes_eq}
use Rattle.std.proofs.lemmas.Bool.{eq-eqb}
use Rattle.std.proofs.lemmas.List.Folds.{position_or_len_push}
use Rattle.std.proofs.lemmas.Option.{slice_get_within}
use Rattle.std.proofs.lemmas.Slice.Eq.{bytes_eq-Decides}
use Rattle.rela_locations.specs.declared.members.By.{By}
use Rattle.rela_locations.specs.declared.members.By.TheVariants as by
use Rattle.rela_claims.specs.Classes.{Class, All, Within, Drop, Loop, each_once, number_in, same_class, same_way, with_class}

-- ---- classes that are written alike are one

same_way_is : (a b : By) → same_way a b ≡ true → a ≡ b
same_way_is by.Interface by.Interface e = refl
same_way_is by.Interface by.Device e = absurd (cc)
same_way_is by.Interface by.Group e = absurd (cc)
same_way_is by.Interface by.Tag e = absurd (cc)
same_way_is by.Device by.Interface e = absurd (cc)
same_way_is by.Device by.Device e = refl
same_way_is by.Device by.Group e = absurd (cc)
same_way_is by.Device by.Tag e = absurd (cc)
same_way_is by.Group by.Interface e = absurd (cc)
same_way_is by.Group by.Device e = absurd (cc)
same_way_is by.Group by.Group e = refl
same_way_is by.Group by.Tag e = absurd (cc)
same_way_is by.Tag by.Interface e = absurd (cc)
same_way_is by.Tag by.Device e = absurd (cc)
same_way_is by.Tag by.Group e = absurd (cc)
same_way_is by.Tag by.Tag e = refl

same_way_self : (a : By) → same_way a a ≡ true
same_way_self by.Interface = refl
same_way_self by.Device = refl
same_way_self by.Group = refl
same_way_self by.Tag = refl

both_true : (a b : Bool) → (a && b) ≡ true → (a ≡ true) × (b ≡ true)
both_true true b e = (refl, e)
both_true false b e = absurd (cc)

same_is : (a b : Class) → same_class a b ≡ true → a ≡ b
same_is All All e = refl
same_is All (Within c y) e = absurd (cc)
same_is All Drop e = absurd (cc)
same_is All Loop e = absurd (cc)
same_is (Within a x) All e = absurd (cc)
same_is (Within a x) (Within c y) e =
    let both = both_true (same_way a c) (bytes_eq x y) e in
    ap₂ Within (same_way_is a c both.0) ((bytes_eq-Decides x y).0 both.1)
same_is (Within a x) Drop e = absurd (cc)
same_is (Within a x) Loop e = absurd (cc)
same_is Drop All e = absurd (cc)
same_is Drop (Within c y) e = absurd (cc)
same_is Drop Drop e = refl
same_is Drop Loop e = absurd (cc)
same_is Loop All e = absurd (cc)
same_is Loop (Within c y) e = absurd (cc)
same_is Loop Drop e = absurd (cc)
same_is Loop Loop e = refl

same_self : (a : Class) → same_class a a ≡ true
same_self All = refl
same_self (Within a x) = ap₂ (λ (b c : Bool). b && c) (same_way_self a) ((bytes_eq-Decides x x).1 refl)
same_self Drop = refl
same_self Loop = refl

-- ---- what a list has

abbrev Has : List Class → Class → Type 0
Has [] c = ⊥
Has (x ∷ xs) c = (x ≡ c) ⊎ Has xs c

has : (xs : List Class) (c : Class) → Contains xs c → Has xs c
has [] c h = absurd (omega (arith, h.1))
has (x ∷ xs) c (zero, inside, at) = inl at
has (x ∷ xs) c (suc k, inside, at) = inr (has xs c (k, omega arith, at))

contains : (xs : List Class) (c : Class) → Has xs c → Contains xs c
contains [] c h = absurd h
contains (x ∷ xs) c (inl is) = (0, omega arith, is)
contains (x ∷ xs) c (inr h) =
    let there = contains xs c h in
    let inside : there.0 < length xs = there.1 in (suc there.0, omega arith, there.2)

has_at : (xs : List Class) (k : ℕ) (c : Class) → slice_get xs k ≡ Some c → Has xs c
has_at [] k c e = absurd (cc)
has_at (x ∷ xs) zero c e = let is : x ≡ c = cc in inl is
has_at (x ∷ xs) (suc k) c e = inr (has_at xs k c e)

has_more : (xs : List Class) (d c : Class) → Has xs c → Has (xs ++ d ∷ []) c
has_more [] d c h = absurd h
has_more (x ∷ xs) d c (inl is) = inl is
has_more (x ∷ xs) d c (inr h) = inr (has_more xs d c h)

has_last : (xs : List Class) (c : Class) → Has (xs ++ c ∷ []) c
has_last [] c = inl refl
has_last (x ∷ xs) c = inr (has_last xs c)

has_old : (xs : List Class) (d c : Class) → Has (xs ++ d ∷ []) c → Has xs c ⊎ (d ≡ c)
has_old [] d c (inl is) = inr is
has_old [] d c (inr h) = absurd h
has_old (x ∷ xs) d c (inl is) = inl (inl is)
has_old (x ∷ xs) d c (inr h) = elim (has_old xs d c h) [ inl there ↦ inl (inr there) | inr is ↦ inr is ]

some_same : (xs : List Class) (c : Class) → list_any (same_class c) xs ≡ true → Has xs c
some_same [] c e = absurd (cc)
some_same (x ∷ xs) c e = by_test (same_class c x) refl e (some_same xs c)
  where
    by_test : (b : Bool) → same_class c x ≡ b → (b || list_any (same_class c) xs) ≡ true → (list_any (same_class c) xs ≡ true → Has xs c) → Has (x ∷ xs) c
    by_test true is e rest = inl (sym (same_is c x is))
    by_test false is e rest = inr (rest e)

-- ---- numbers

one_more : (n : ℕ) → 1 + n ≡ suc n
one_more n = omega arith

-- what a table has stands at its number
stands : (xs : List Class) (c : Class) → Has xs c → slice_get xs (number_in xs c) ≡ Some c
stands [] c h = absurd h
stands (x ∷ xs) c h = by_test (same_class c x) refl h (stands xs c)
  where
    by_test : (b : Bool) → same_class c x ≡ b → Has (x ∷ xs) c → (Has xs c → slice_get xs (number_in xs c) ≡ Some c) → slice_get (x ∷ xs) (cond (not b) (1 + number_in xs c) 0) ≡ Some c
    by_test true is h rest = ap Some (sym (same_is c x is))
    by_test false is (inl same) rest = let never : false ≡ true = sym is ∙ ap (same_class c) same ∙ same_self c in absurd (cc)
    by_test false is (inr h) rest = ap (slice_get (x ∷ xs)) (one_more (number_in xs c)) ∙ rest h

-- what a table lacks has its length as its number
lacking : (xs : List Class) (c : Class) → list_any (same_class c) xs ≡ false → number_in xs c ≡ length xs
lacking [] c e = refl
lacking (x ∷ xs) c e = by_test (same_class c x) e (lacking xs c)
  where
    by_test : (b : Bool) → (b || list_any (same_class c) xs) ≡ false → (list_any (same_class c) xs ≡ false → number_in xs c ≡ length xs) → cond (not b) (1 + number_in xs c) 0 ≡ suc (length xs)
    by_test true e rest = absurd (cc)
    by_test false e rest = one_more (number_in xs c) ∙ ap suc (rest e)

-- each stands at its own number alone
abbrev Own : List Class → Type 0
Own xs = (k : ℕ) (c : Class) → slice_get xs k ≡ Some c → number_in xs c ≡ k

at_old_or_last : (xs : List Class) (d : Class) (k : ℕ) (c : Class) → slice_get (xs ++ d ∷ []) k ≡ Some c → (slice_get xs k ≡ Some c) ⊎ ((k ≡ length xs) × (d ≡ c))
at_old_or_last [] d zero c e = let is : d ≡ c = cc in inr (refl, is)
at_old_or_last [] d (suc k) c e = absurd (cc)
at_old_or_last (x ∷ xs) d zero c e = inl e
at_old_or_last (x ∷ xs) d (suc k) c e = elim (at_old_or_last xs d k c e) [ inl old ↦ inl old | inr last ↦ inr (ap suc last.0, last.1) ]

own_more : (xs : List Class) (d : Class) → Own xs → list_any (same_class d) xs ≡ false → Own (xs ++ d ∷ [])
own_more xs d own new k c e = elim (at_old_or_last xs d k c e) [
  | inl old ↦
      let is : number_in xs c ≡ k = own k c old in
      let inside : k < length xs = slice_get_within xs k c old in
      position_or_len_push (same_class c) xs d ∙ by_place (eqb (number_in xs c) (length xs)) refl (omega (arith, is, inside)) ∙ is
  | inr last ↦
      let none : number_in xs c ≡ length xs = subst (λ (x : Class). number_in xs x ≡ length xs) last.1 (lacking xs d new) in
      let end : length xs + 0 ≡ k = omega (arith, last.0) in
      let self : same_class c d ≡ true = subst (λ (x : Class). same_class c x ≡ true) (sym last.1) (same_self c) in
      position_or_len_push (same_class c) xs d
      ∙ ap₂ (λ (b t : Bool). cond b (length xs + cond t 0 1) (number_in xs c)) (eq-eqb (number_in xs c) (length xs) none) self
      ∙ end
]
  where
    by_place : (b : Bool) → eqb (number_in xs c) (length xs) ≡ b → number_in xs c < length xs → cond b (length xs + cond (same_class c d) 0 1) (number_in xs c) ≡ number_in xs c
    by_place true is inside = let same : number_in xs c ≡ length xs = grind arith in absurd (omega (arith, same, inside))
    by_place false is inside = refl

-- ---- the table of all that is mentioned

module _ (d : Class) (xs : List Class) where
  abbrev Next : Bool → List Class
  Next b = if b then xs else xs ++ d ∷ []

  keeps : (c : Class) (b : Bool) → Has xs c → Has (Next b) c
  keeps c true h = h
  keeps c false h = has_more xs d c h

  gets : (b : Bool) → list_any (same_class d) xs ≡ b → Has (Next b) d
  gets true is = some_same xs d is
  gets false is = has_last xs d

  only : (c : Class) (b : Bool) → Has (Next b) c → Has xs c ⊎ (d ≡ c)
  only c true h = inl h
  only c false h = has_old xs d c h

  owns : (b : Bool) → list_any (same_class d) xs ≡ b → Own xs → Own (Next b)
  owns true is own = own
  owns false is own = own_more xs d own is

all_had : (cs xs : List Class) (c : Class) → Has xs c ⊎ Has cs c → Has (fold with_class xs cs) c
all_had [] xs c (inl h) = h
all_had [] xs c (inr h) = absurd h
all_had (d ∷ cs) xs c (inl h) = all_had cs (with_class xs d) c (inl (keeps d xs c (list_any (same_class d) xs) h))
all_had (d ∷ cs) xs c (inr (inl is)) =
    all_had cs (with_class xs d) c (inl (subst (λ (x : Class). Has (with_class xs d) x) is (gets d xs (list_any (same_class d) xs) refl)))
all_had (d ∷ cs) xs c (inr (inr h)) = all_had cs (with_class xs d) c (inr h)

none_else : (cs xs : List Class) (c : Class) → Has (fold with_class xs cs) c → Has xs c ⊎ Has cs c
none_else [] xs c h = inl h
none_else (d ∷ cs) xs c h = elim (none_else cs (with_class xs d) c h) [
  | inl old ↦ elim (only d xs c (list_any (same_class d) xs) old) [ inl before ↦ inl before | inr is ↦ inr (inl is) ]
  | inr later ↦ inr (inr later)
]

all_own : (cs xs : List Class) → Own xs → Own (fold with_class xs cs)
all_own [] xs own = own
all_own (d ∷ cs) xs own = all_own cs (with_class xs d) (owns d xs (list_any (same_class d) xs) refl own)

pub mentioned_stands : (classes : List Class) (c : Class) → Contains classes c → slice_get (each_once classes) (number_in (each_once classes) c) ≡ Some c
mentioned_stands classes c h = stands (each_once classes) c (all_had classes [] c (inr (has classes c h)))

pub standing_is_mentioned : (classes : List Class) (k : ℕ) (c : Class) → slice_get (each_once classes) k ≡ Some c → Contains classes c
standing_is_mentioned classes k c e = elim (none_else classes [] c (has_at (each_once classes) k c e)) [ inl never ↦ absurd never | inr h ↦ contains classes c h ]

none_own : Own []
none_own k c e = absurd (cc)

pub stands_at_its_own : (classes : List Class) (k : ℕ) (c : Class) → slice_get (each_once classes) k ≡ Some c → number_in (each_once classes) c ≡ k
stands_at_its_own classes k c e = all_own classes [] none_own k c e
