-- What a word was mapped from.
use Rattle.std.proofs.Common.{◌≡◌, ℕ, List, [], ◌∷◌, ◌++◌, length, map, refl, sym, ap, arith, length-append}

pub no_word : (f : ℕ → ℕ) (w : List ℕ) → [] ≡ map f w → w ≡ []
no_word f [] e = refl
no_word f (s ∷ w) e = absurd (omega (arith, ap length e))

pub one_symbol : (f : ℕ → ℕ) (w : List ℕ) (k : ℕ) → k ∷ [] ≡ map f w → (s : ℕ) × (w ≡ s ∷ []) × (f s ≡ k)
one_symbol f [] k e = absurd (omega (arith, ap length e))
one_symbol f (s ∷ []) k e = let same : k ≡ f s = cc in (s, refl, sym same)
one_symbol f (s ∷ t ∷ w) k e = absurd (omega (arith, ap length e))

-- what was mapped to a word in two parts has two parts too
pub split_word : (f : ℕ → ℕ) (x y w : List ℕ) → x ++ y ≡ map f w → (front : List ℕ) × (rest : List ℕ) × (w ≡ front ++ rest) × (x ≡ map f front) × (y ≡ map f rest)
split_word f [] y w e = ([], w, refl, refl, e)
split_word f (k ∷ x) y [] e = absurd (omega (arith, ap length e))
split_word f (k ∷ x) y (s ∷ w) e =
    let head : k ≡ f s = cc in
    let tail : x ++ y ≡ map f w = cc in
    let parts = split_word f x y w tail in
    (s ∷ parts.0, parts.1, ap (λ l. s ∷ l) parts.2, (λ i. head i ∷ parts.3 i), parts.4)

-- the last of a word that was mapped
pub map_last : (f : ℕ → ℕ) (w v : List ℕ) (j : ℕ) → v ++ j ∷ [] ≡ map f w → (front : List ℕ) × (s : ℕ) × (w ≡ front ++ s ∷ []) × (v ≡ map f front) × (j ≡ f s)
map_last f [] v j same = absurd (omega (arith, ap length same, length-append v (j ∷ [])))
map_last f (s ∷ []) [] j same = let at : j ≡ f s = cc in ([], s, refl, refl, at)
map_last f (s ∷ t ∷ w) [] j same = absurd (omega (arith, ap length same))
map_last f (s ∷ []) (x ∷ v) j same = absurd (omega (arith, ap length same, length-append v (j ∷ [])))
map_last f (s ∷ t ∷ w) (x ∷ v) j same =
    let head : x ≡ f s = cc in
    let tail : v ++ j ∷ [] ≡ map f (t ∷ w) = cc in
    let last = map_last f (t ∷ w) v j tail in
    (s ∷ last.0, last.1, ap (λ l. s ∷ l) last.2, (λ i. head i ∷ last.3 i), last.4)
