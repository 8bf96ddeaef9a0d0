-- Lists side by side, one after another.
use Rattle.std.proofs.Common.{◌≡◌, ◌∙◌, ℕ, ◌+◌, ◌<◌, List, [], ◌∷◌, ◌++◌, length, map, take, get_or, refl, sym, ap, subst, append_assoc}
use Rattle.std.specs.List.{All, AllZip, flat_map}
use Rattle.std.proofs.lemmas.List.{take_more}
use Rattle.std.proofs.lemmas.List.Concat.{flat_map-append}
use Rattle.std.proofs.lemmas.List.Elements.{All-cons, All-nil}
use Rattle.rela_assertions.specs.Rows.{Appended}

pub append_none : {X : Type 0} (xs : List X) → xs ++ [] ≡ xs
append_none [] = refl
append_none (x ∷ xs) = ap (λ l. x ∷ l) (append_none xs)

module _ {A B : Type 0} (R : A → B → Type 0) where
  pub zip_append : (xs others : List A) (ys more : List B) → AllZip R xs ys → AllZip R others more → AllZip R (xs ++ others) (ys ++ more)
  zip_append [] others [] more each rest = rest
  zip_append [] others (y ∷ ys) more each rest = absurd each
  zip_append (x ∷ xs) others [] more each rest = absurd each
  zip_append (x ∷ xs) others (y ∷ ys) more each rest = (each.0, zip_append xs others ys more each.1 rest)

  -- nothing is appended
  pub none_appended : (items : List B) → Appended R [] items items
  none_appended items = record { made = []; is = sym (append_none items); each = tt }

  -- one item more
  pub appended_more : (xs : List A) (old new newer : List B) (i : ℕ) (d : A) (y : B) → i < length xs → Appended R (take i xs) old new → newer ≡ new ++ y ∷ []
      → R (get_or xs i d) y → Appended R (take (i + 1) xs) old newer
  appended_more xs old new newer i d y within so_far is one = record {
    made = so_far.made ++ y ∷ [];
    is = is ∙ ap (λ l. l ++ y ∷ []) so_far.is ∙ append_assoc old so_far.made (y ∷ []);
    each = subst (λ (l : List A). AllZip R l (so_far.made ++ y ∷ [])) (sym (take_more xs i d within))
        (zip_append (take i xs) (get_or xs i d ∷ []) so_far.made (y ∷ []) so_far.each (one, tt));
  }

-- what a pair of each with one thing has
pub zip_paired : {A B C : Type 0} (R : A × B → C → Type 0) (a : A) (bs : List B) (cs : List C) → AllZip (λ b c. R (a, b) c) bs cs → AllZip R (map (λ b. (a, b)) bs) cs
zip_paired R a [] [] each = tt
zip_paired R a [] (c ∷ cs) each = absurd each
zip_paired R a (b ∷ bs) [] each = absurd each
zip_paired R a (b ∷ bs) (c ∷ cs) each = (each.0, zip_paired R a bs cs each.1)

-- one element more, and the items that it has
pub flat_more : {A B C : Type 0} (f : A → List B) (R : B → C → Type 0) (xs : List A) (i : ℕ) (d : A) (ys made more : List C) → i < length xs
    → AllZip R (flat_map f (take i xs)) ys → AllZip R (f (get_or xs i d)) made → more ≡ ys ++ made → AllZip R (flat_map f (take (i + 1) xs)) more
flat_more {A} {B} {C} f R xs i d ys made more within each rest is =
    let next : flat_map f (take (i + 1) xs) ≡ flat_map f (take i xs) ++ flat_map f (get_or xs i d ∷ []) = ap (flat_map f) (take_more xs i d within) ∙ flat_map-append f (take i xs) (get_or xs i d ∷ []) in
    let one : flat_map f (get_or xs i d ∷ []) ≡ f (get_or xs i d) = append_none (f (get_or xs i d)) in
    subst (λ (l : List B). AllZip R l more) (sym (next ∙ ap (λ l. flat_map f (take i xs) ++ l) one))
    (subst (λ (l : List C). AllZip R (flat_map f (take i xs) ++ f (get_or xs i d)) l) (sym is) (zip_append R (flat_map f (take i xs)) (f (get_or xs i d)) ys made each rest))

-- what follows of each right item
pub zip_all : {A B : Type 0} (R : A → B → Type 0) (P : B → Type 0) (xs : List A) (ys : List B) → ((x : A) (y : B) → R x y → P y) → AllZip R xs ys → All P ys
zip_all R P [] [] on each = All-nil P
zip_all R P [] (y ∷ ys) on each = absurd each
zip_all R P (x ∷ xs) [] on each = absurd each
zip_all R P (x ∷ xs) (y ∷ ys) on each = All-cons P y ys (on x y each.0) (zip_all R P xs ys on each.1)
