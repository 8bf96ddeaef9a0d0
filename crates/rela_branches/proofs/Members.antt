-- Places that are listed.
use Rattle.std.proofs.Common.{zero, suc, ◌≡◌, ℕ, ◌+◌, ◌<◌, ◌≤◌, ◌↔◌, ◌⊎◌, Bool, true, false, List, [], ◌∷◌, ◌++◌, length, get_or, drop, inl, inr, arith, refl, sym, subst, ◌∙◌}
use Rattle.std.proofs.lemmas.List.{drop_more, drop_all, get_or_default}
use Rattle.std.proofs.lemmas.List.Elements.{All-get_or, All-from_get_or}
use Rattle.std.specs.Prelude.{IfOk, Result, Ok, Err}
use Rattle.rela_branches.specs.Places.{AllBelow, AreBelow, Has}

pub follow : {A B C : Type 0} → A ↔ B → B ↔ C → A ↔ C
follow f g = (λ a. g.0 (f.0 a), λ c. f.1 (g.1 c))

pub back : {A B : Type 0} → A ↔ B → B ↔ A
back f = (f.1, f.0)

pub both_ok : {A E : Type 0} (P Q R : A → Type 0) (r : Result A E) → ((a : A) → P a → Q a → R a) → IfOk r P → IfOk r Q → IfOk r R
both_ok P Q R (Ok a) f p q = f a p q
both_ok P Q R (Err e) f p q = tt

pub not_both : (b : Bool) → b ≡ true → b ≡ false → ⊥
not_both b is is_not = let e : true ≡ false = sym is ∙ is_not in grind arith

-- the row of a place below the bound is below it
pub row_below : (rows : List (List ℕ)) (bound n k : ℕ) (row shown : List ℕ) → AllBelow bound rows → k < length rows → row ≡ get_or rows k row → shown ≡ row → n ≡ bound
    → AreBelow n shown
row_below rows bound n k row shown below inside at same is =
    subst (λ (m : ℕ). AreBelow m shown) (sym is)
    (subst (AreBelow bound) (sym (same ∙ at ∙ get_or_default rows k row (let none : List ℕ = [] in none) inside)) (below k inside))

pub has_push : (xs : List ℕ) (x i : ℕ) → Has (xs ++ x ∷ []) i ↔ (Has xs i ⊎ (i ≡ x))
has_push [] x i = (λ h. elim h [ inl e ↦ inr e | inr none ↦ absurd none ], λ h. elim h [ inl none ↦ absurd none | inr e ↦ inl e ])
has_push (y ∷ xs) x i = (
  λ h. elim h [ inl e ↦ inl (inl e) | inr later ↦ elim ((has_push xs x i).0 later) [ inl there ↦ inl (inr there) | inr e ↦ inr e ] ],
  λ h. elim h [
    | inl before ↦ elim before [ inl e ↦ inl e | inr there ↦ inr ((has_push xs x i).1 (inl there)) ]
    | inr e ↦ inr ((has_push xs x i).1 (inr e))
  ],
)

-- the next of the places that are left
pub has_next : (xs : List ℕ) (k i : ℕ) → k < length xs → Has (drop k xs) i ↔ ((i ≡ get_or xs k 0) ⊎ Has (drop (k + 1) xs) i)
has_next xs k i inside =
    let next = drop_more xs k 0 inside in (λ h. subst (λ (ys : List ℕ). Has ys i) next h, λ h. subst (λ (ys : List ℕ). Has ys i) (sym next) h)

pub has_none : (xs : List ℕ) (k i : ℕ) → length xs ≤ k → Has (drop k xs) i → ⊥
has_none xs k i past h = subst (λ (ys : List ℕ). Has ys i) (drop_all k xs past) h

pub has_at : (xs : List ℕ) (i : ℕ) → Has xs i → (k : ℕ) × (k < length xs) × (get_or xs k 0 ≡ i)
has_at [] i none = absurd none
has_at (x ∷ xs) i (inl e) = (zero, omega arith, sym e)
has_at (x ∷ xs) i (inr later) = let rest = has_at xs i later in let inside = rest.1 in (suc rest.0, omega arith, rest.2)

pub has_below : (bound : ℕ) (xs : List ℕ) (i : ℕ) → AreBelow bound xs → Has xs i → i < bound
has_below bound xs i below h =
    let at = has_at xs i h in subst (λ (j : ℕ). j < bound) at.2 (All-get_or (λ j. j < bound) xs at.0 0 at.1 below)

pub has_item : (xs : List ℕ) (k : ℕ) → k < length xs → Has xs (get_or xs k 0)
has_item [] k inside = absurd (omega arith)
has_item (x ∷ xs) zero inside = inl refl
has_item (x ∷ xs) (suc k) inside = inr (has_item xs k (omega arith))

-- a list of which each place is below the bound is below it
pub all_below : (bound : ℕ) (xs : List ℕ) → ((i : ℕ) → Has xs i → i < bound) → AreBelow bound xs
all_below bound xs each = All-from_get_or (λ j. j < bound) xs 0 (λ k inside. each (get_or xs k 0) (has_item xs k inside))
