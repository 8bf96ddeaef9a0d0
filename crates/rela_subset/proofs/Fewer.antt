-- Fewer letters are left.
use Rattle.std.proofs.Common.{◌≡◌, ℕ, zero, suc, ◌+◌, ◌<◌, ◌≤◌, Bool, true, false, not, ◌&&◌, List, [], ◌∷◌, length, refl, sym, ap, ◌∙◌, arith}
use Rattle.std.specs.List.{count_by}
use Rattle.std.proofs.lemmas.Bool.{false≢true}
use Rattle.std.proofs.lemmas.List.Sums.{sum_by-cons}
use Rattle.rela_labels.specs.Letters.{has}
use Rattle.rela_subset.proofs.Bundling.{digit}

abbrev count : List Bool → ℕ
count letters = count_by (λ taken. taken) letters

count_cons : (b : Bool) (rest : List Bool) → count (b ∷ rest) ≡ digit b + count rest
count_cons b rest = sum_by-cons (λ (taken : Bool). digit taken) b rest

digit_le : (a b : Bool) → (b ≡ true → a ≡ true) → digit b ≤ digit a
digit_le true true imp = omega arith
digit_le true false imp = omega arith
digit_le false true imp = absurd (false≢true (imp refl))
digit_le false false imp = omega arith

no_more : (xs ys : List Bool) → length ys ≡ length xs → ((k : ℕ) → has ys k ≡ true → has xs k ≡ true) → count ys ≤ count xs
no_more [] [] same within = omega arith
no_more [] (y ∷ ys) same within = absurd (omega arith)
no_more (x ∷ xs) [] same within = absurd (omega arith)
no_more (x ∷ xs) (y ∷ ys) same within =
    omega (arith, count_cons x xs, count_cons y ys, digit_le x y (within 0), no_more xs ys (omega arith) (λ k h. within (suc k) h))

pub fewer : (xs ys : List Bool) (k : ℕ) → length ys ≡ length xs → ((j : ℕ) → has ys j ≡ true → has xs j ≡ true) → has xs k ≡ true → has ys k ≡ false → count ys < count xs
fewer [] ys k same within among lost = absurd (false≢true among)
fewer (x ∷ xs) [] k same within among lost = absurd (omega arith)
fewer (x ∷ xs) (y ∷ ys) zero same within among lost =
    let one : digit x ≡ 1 = ap digit among in
    let none : digit y ≡ 0 = ap digit lost in
    omega (arith, count_cons x xs, count_cons y ys, no_more xs ys (omega arith) (λ j h. within (suc j) h))
fewer (x ∷ xs) (y ∷ ys) (suc k) same within among lost =
    omega (arith, count_cons x xs, count_cons y ys, digit_le x y (within 0), fewer xs ys k (omega arith) (λ j h. within (suc j) h) among lost)

both : (x y : Bool) → (x && not y) ≡ true → x ≡ true
both true y e = refl
both false y e = e

taken : (x y : Bool) → y ≡ true → (x && not y) ≡ false
taken true true e = refl
taken true false e = absurd (false≢true e)
taken false y e = refl

-- after a block is taken away
pub fewer_left : (rest block left : List Bool) (k : ℕ) → length left ≡ length rest → ((j : ℕ) → has left j ≡ (has rest j && not (has block j))) → has rest k ≡ true → has block k ≡ true → count left < count rest
fewer_left rest block left k same cut among inside =
    fewer rest left k same (λ j h. both (has rest j) (has block j) (sym (cut j) ∙ h)) among (cut k ∙ taken (has rest k) (has block k) inside)
