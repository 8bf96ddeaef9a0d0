-- Fewer letters are left where one is taken out of a set.
use Rattle.std.proofs.Common.{◌≡◌, ℕ, zero, suc, ◌+◌, ◌<◌, ◌≤◌, Bool, true, false, not, cond, ◌&&◌, List, [], ◌∷◌, length, refl, sym, ap, ◌∙◌, arith}
use Rattle.std.specs.List.{count_by}
use Rattle.std.proofs.lemmas.Bool.{and_parts, and_right, false≢true}
use Rattle.std.proofs.lemmas.List.Sums.{sum_by-cons}
use Rattle.rela_labels.specs.Letters.{has}

abbrev digit : Bool → ℕ
digit b = cond b 1 0

abbrev count : List Bool → ℕ
count letters = count_by (λ among. among) letters

count_cons : (b : Bool) (rest : List Bool) → count (b ∷ rest) ≡ digit b + count rest
count_cons b rest = sum_by-cons digit b rest

digit_le : (x y : Bool) → (y ≡ true → x ≡ true) → digit y ≤ digit x
digit_le true true within = omega arith
digit_le true false within = omega arith
digit_le false true within = absurd (false≢true (within refl))
digit_le false false within = omega arith

no_more : (xs ys : List Bool) → length ys ≡ length xs → ((k : ℕ) → has ys k ≡ true → has xs k ≡ true) → count ys ≤ count xs
no_more [] [] same within = omega arith
no_more [] (y ∷ ys) same within = absurd (omega (arith, same))
no_more (x ∷ xs) [] same within = absurd (omega (arith, same))
no_more (x ∷ xs) (y ∷ ys) same within =
    omega (arith, count_cons x xs, count_cons y ys, digit_le x y (within 0), no_more xs ys (omega (arith, same)) (λ k there. within (suc k) there))

fewer : (xs ys : List Bool) (k : ℕ) → length ys ≡ length xs → ((j : ℕ) → has ys j ≡ true → has xs j ≡ true) → has xs k ≡ true → has ys k ≡ false → count ys < count xs
fewer [] ys k same within among lost = absurd (false≢true among)
fewer (x ∷ xs) [] k same within among lost = absurd (omega (arith, same))
fewer (x ∷ xs) (y ∷ ys) zero same within among lost =
    let one : digit x ≡ 1 = ap digit among in
    let none : digit y ≡ 0 = ap digit lost in
    omega (arith, one, none, count_cons x xs, count_cons y ys, no_more xs ys (omega (arith, same)) (λ j there. within (suc j) there))
fewer (x ∷ xs) (y ∷ ys) (suc k) same within among lost =
    omega (arith, count_cons x xs, count_cons y ys, digit_le x y (within 0), fewer xs ys k (omega (arith, same)) (λ j there. within (suc j) there) among lost)

-- after a block is taken out that has one of the letters
pub fewer_left : (rest block left : List Bool) (k : ℕ) → length left ≡ length rest → ((j : ℕ) → has left j ≡ (has rest j && not (has block j))) → has rest k ≡ true → has block k ≡ true → count left < count rest
fewer_left rest block left k same cut among inside =
    fewer rest left k same (λ j there. (and_parts (has rest j) (not (has block j)) (sym (cut j) ∙ there)).0) among
    (cut k ∙ and_right (has rest k) (not (has block k)) (ap not inside))
