-- Steps over a list of which the first refusal is the answer.
use Rattle.std.proofs.Common.{zero, suc, ◌≡◌, ℕ, ◌<◌, List, [], ◌∷◌, ◌++◌, length, take, get_or, map, Result, Ok, Err, refl, ap, ap₂, sym, ◌∙◌, arith}
use Rattle.rela_json.specs.Results.{◌>>=◌, try_map}

module _ {A B E : Type 0} (f : A → Result B E) where
  -- the first, and then the others
  ahead : (x : A) (xs : List A) {b : B} {bs : List B} → f x ≡ Ok b → try_map f xs ≡ Ok bs → try_map f (x ∷ xs) ≡ Ok (b ∷ bs)
  ahead x xs {b} {bs} one others =
      ap (λ (r : Result B E). r >>= (λ y. try_map f xs >>= (λ ys. Ok (y ∷ ys)))) one
      ∙ ap (λ (r : Result (List B) E). r >>= (λ ys. Ok (b ∷ ys))) others

  ahead_stops : (x : A) (xs : List A) {b : B} {e : E} → f x ≡ Ok b → try_map f xs ≡ Err e → try_map f (x ∷ xs) ≡ Err e
  ahead_stops x xs {b} {e} one others =
      ap (λ (r : Result B E). r >>= (λ y. try_map f xs >>= (λ ys. Ok (y ∷ ys)))) one
      ∙ ap (λ (r : Result (List B) E). r >>= (λ ys. Ok (b ∷ ys))) others

  first_of : (x : A) (xs : List A) (bs : List B) → try_map f (x ∷ xs) ≡ Ok bs → (b : B) × (cs : List B) × (f x ≡ Ok b) × (try_map f xs ≡ Ok cs) × (bs ≡ b ∷ cs)
  first_of x xs bs h = by_first (f x) refl (try_map f xs) refl h
    where
      by_first : (r : Result B E) → f x ≡ r → (rs : Result (List B) E) → try_map f xs ≡ rs → (r >>= (λ y. rs >>= (λ ys. Ok (y ∷ ys)))) ≡ Ok bs
          → (b : B) × (cs : List B) × (f x ≡ Ok b) × (try_map f xs ≡ Ok cs) × (bs ≡ b ∷ cs)
      by_first (Ok b) is (Ok cs) are h = (b, cs, is, are, (cc))
      by_first (Ok b) is (Err e) are h = absurd (cc)
      by_first (Err e) is rs are h = absurd (cc)

  pub try_more : (xs : List A) (i : ℕ) (d : A) (bs : List B) (b : B) → i < length xs → try_map f (take i xs) ≡ Ok bs → f (get_or xs i d) ≡ Ok b
      → try_map f (take (suc i) xs) ≡ Ok (bs ++ b ∷ [])
  try_more [] i d bs b h so here = absurd (omega arith)
  try_more (x ∷ xs) zero d bs b h so here =
      let none : bs ≡ [] = cc in ahead x [] here refl ∙ ap (λ (cs : List B). let r : Result (List B) E = Ok (cs ++ b ∷ []) in r) (sym none)
  try_more (x ∷ xs) (suc i) d bs b h so here =
      let q = first_of x (take i xs) bs so in
      ahead x (take (suc i) xs) q.2 (try_more xs i d q.1 b (omega arith) q.3 here) ∙ ap (λ (cs : List B). let r : Result (List B) E = Ok (cs ++ b ∷ []) in r) (sym q.4)

  pub try_stops : (xs : List A) (i : ℕ) (d : A) (bs : List B) (e : E) → i < length xs → try_map f (take i xs) ≡ Ok bs → f (get_or xs i d) ≡ Err e → try_map f xs ≡ Err e
  try_stops [] i d bs e h so here = absurd (omega arith)
  try_stops (x ∷ xs) zero d bs e h so here = ap (λ (r : Result B E). r >>= (λ y. try_map f xs >>= (λ ys. Ok (y ∷ ys)))) here
  try_stops (x ∷ xs) (suc i) d bs e h so here =
      let q = first_of x (take i xs) bs so in
      ahead_stops x xs q.2 (try_stops xs i d q.1 e (omega arith) q.3 here)

  pub tried_are : (or : Result B E → B) → ((b : B) → or (Ok b) ≡ b) → (xs : List A) (bs : List B) → try_map f xs ≡ Ok bs → bs ≡ map (λ x. or (f x)) xs
  tried_are or is [] bs h = cc
  tried_are or is (x ∷ xs) bs h =
      let q = first_of x xs bs h in
      q.4 ∙ ap₂ (λ (c : B) (cs : List B). c ∷ cs) (sym (ap or q.2 ∙ is q.0)) (tried_are or is xs q.1 q.3)

-- trying what a function gives is trying the function
pub try_of_map : {A B E : Type 0} (f : A → Result B E) (xs : List A) → try_map (λ x. x) (map f xs) ≡ try_map f xs
try_of_map f [] = refl
try_of_map {A} {B} {E} f (x ∷ xs) = ap (λ (rs : Result (List B) E). f x >>= (λ y. rs >>= (λ ys. Ok (y ∷ ys)))) (try_of_map f xs)
