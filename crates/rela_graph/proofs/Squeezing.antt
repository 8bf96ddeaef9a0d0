-- A list that goes on by one element, with each run of equal neighbours written once.
use Rattle.std.proofs.Common.{◌≡◌, ◌≢◌, ℕ, true, false, List, [], ◌∷◌, ◌++◌, refl, ap, ◌∙◌}
use Rattle.std.specs.Prelude.{◌==◌, if◌then◌else◌}
use Rattle.std.proofs.lemmas.Bool.{eq-eqb, ne_eqb}
use Rattle.rela_graph.specs.Paths.{squeeze, squeeze_after}

-- x after z, and then the rest
abbrev after : ℕ → ℕ → List ℕ → List ℕ
after z x rest = if z == x then rest else x ∷ rest

after-append : (z x : ℕ) (u v : List ℕ) → after z x (u ++ v) ≡ after z x u ++ v
after-append z x u v = elim (z == x) as (λ b. (if b then u ++ v else x ∷ (u ++ v)) ≡ (if b then u else x ∷ u) ++ v) [ true ↦ refl | false ↦ refl ]

same_after : (z : ℕ) (xs : List ℕ) (x y : ℕ) → x ≡ y → squeeze_after z ((xs ++ x ∷ []) ++ y ∷ []) ≡ squeeze_after z (xs ++ x ∷ [])
same_after z [] x y e = ap (after z x) (let t = eq-eqb x y e in rw t)
same_after z (w ∷ xs) x y e = ap (after z w) (same_after w xs x y e)

other_after : (z : ℕ) (xs : List ℕ) (x y : ℕ) → x ≢ y → squeeze_after z ((xs ++ x ∷ []) ++ y ∷ []) ≡ squeeze_after z (xs ++ x ∷ []) ++ y ∷ []
other_after z [] x y ne = ap (after z x) (let t = ne_eqb x y ne in rw t) ∙ after-append z x [] (y ∷ [])
other_after z (w ∷ xs) x y ne = ap (after z w) (other_after w xs x y ne) ∙ after-append z w (squeeze_after w (xs ++ x ∷ [])) (y ∷ [])

-- an element that equals the last adds nothing
pub squeeze_same : (xs : List ℕ) (x y : ℕ) → x ≡ y → squeeze ((xs ++ x ∷ []) ++ y ∷ []) ≡ squeeze (xs ++ x ∷ [])
squeeze_same [] x y e = ap (λ r. x ∷ r) (let t = eq-eqb x y e in rw t)
squeeze_same (w ∷ xs) x y e = ap (λ r. w ∷ r) (same_after w xs x y e)

-- another element is added
pub squeeze_other : (xs : List ℕ) (x y : ℕ) → x ≢ y → squeeze ((xs ++ x ∷ []) ++ y ∷ []) ≡ squeeze (xs ++ x ∷ []) ++ y ∷ []
squeeze_other [] x y ne = ap (λ r. x ∷ r) (let t = ne_eqb x y ne in rw t)
squeeze_other (w ∷ xs) x y ne = ap (λ r. w ∷ r) (other_after w xs x y ne)
