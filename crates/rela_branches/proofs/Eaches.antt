-- Lists of sets that are made one set after another.
use Rattle.std.proofs.Common.{◌≡◌, ℕ, ◌+◌, ◌<◌, ◌≤◌, List, [], ◌∷◌, ◌++◌, length, get_or, inl, inr, arith, sym, ap, subst, ◌∙◌, length-append}
use Rattle.std.proofs.lemmas.Bool.{cases_lt}
use Rattle.std.proofs.lemmas.List.{get_or_append_left, get_or_default}
use Rattle.std.proofs.Math.Seq.{get_or-append_seam}
use Rattle.rela_branches.specs.Places.{Each, EachOfTwo}

abbrev Sets : Type 0
Sets = List (List ℕ)

-- the set at a place of a list, or none
abbrev pub at : List (List ℕ) → ℕ → List ℕ
at sets k = get_or sets k []

pub pushed_old : (sets : Sets) (x : List ℕ) (i : ℕ) → i < length sets → at (sets ++ x ∷ []) i ≡ at sets i
pushed_old sets x i inside = get_or_append_left sets (x ∷ []) [] i inside

pub pushed_new : (sets : Sets) (x : List ℕ) (k : ℕ) → length sets ≡ k → at (sets ++ x ∷ []) k ≡ x
pushed_new sets x k long = subst (λ (n : ℕ). at (sets ++ x ∷ []) n ≡ x) long (get_or-append_seam sets x [] [])

-- P holds of one more set
pub all_more : (P : ℕ → List ℕ → Type 0) (sets sets' : Sets) (k : ℕ) (x : List ℕ) → sets' ≡ sets ++ x ∷ [] → length sets ≡ k → P k x
    → ((i : ℕ) → i < k → P i (at sets i)) → (i : ℕ) → i < k + 1 → P i (at sets' i)
all_more P sets sets' k x is long new so_far i before =
    subst (λ (ys : Sets). P i (at ys i)) (sym is)
    (elim (cases_lt i k) [
      | inl old ↦ subst (P i) (sym (pushed_old sets x i (omega arith))) (so_far i old)
      | inr past ↦ let e : k ≡ i = omega arith in subst (λ (n : ℕ). P n (at (sets ++ x ∷ []) n)) e (subst (P k) (sym (pushed_new sets x k long)) new)
    ])

pub longer : (sets sets' : Sets) (k : ℕ) (x : List ℕ) → sets' ≡ sets ++ x ∷ [] → length sets ≡ k → length sets' ≡ k + 1
longer sets sets' k x is long =
    ap length is ∙ length-append sets (x ∷ []) ∙ (let e : length sets + length (x ∷ []) ≡ k + 1 = omega arith in e)

-- the set that a loop has come to
pub item : (sets : Sets) (k : ℕ) (x : List ℕ) → k < length sets → x ≡ get_or sets k x → x ≡ at sets k
item sets k x inside is = is ∙ get_or_default sets k x [] inside

pub each_done : (R : List ℕ → List ℕ → Type 0) (from to : Sets) (k : ℕ) → length to ≡ k → k ≤ length from → length from ≤ k
    → ((i : ℕ) → i < k → R (at from i) (at to i)) → Each R from to
each_done R from to k long within past each = record { long = omega arith; at = λ i inside. each i (omega arith) }

pub two_done : (R : List ℕ → List ℕ → List ℕ → Type 0) (first second to : Sets) (k : ℕ) → length to ≡ k → k ≤ length first → length first ≤ k
    → ((i : ℕ) → i < k → R (at first i) (at second i) (at to i)) → EachOfTwo R first second to
two_done R first second to k long within past each = record { long = omega arith; at = λ i inside. each i (omega arith) }
