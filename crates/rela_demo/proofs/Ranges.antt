-- Lists that are made from each number of a range, one number after the other.
use Rattle.std.proofs.Common.{◌≡◌, ◌∙◌, refl, sym, ap, ℕ, zero, suc, ◌+◌, ◌-◌, ◌≤◌, List, [], ◌∷◌, ◌++◌, append_assoc, append-nil, arith}
use Rattle.std.specs.List.{flat_map, range_with_len}
use Rattle.std.proofs.lemmas.List.Concat.{flat_map-append}
use Rattle.rela_demo.specs.Pieces.{entries_before}

range_push : (a n : ℕ) → range_with_len a (suc n) ≡ range_with_len a n ++ (a + n) ∷ []
range_push a zero = let same : a ≡ a + 0 = omega arith in ap (λ (m : ℕ). m ∷ []) same
range_push a (suc n) =
    let same : a + 1 + n ≡ a + suc n = omega arith in
    ap (λ (ms : List ℕ). a ∷ ms) (range_push (a + 1) n) ∙ ap (λ (m : ℕ). a ∷ (range_with_len (a + 1) n ++ m ∷ [])) same

range_more : (a k : ℕ) → a ≤ k → range_with_len a (k + 1 - a) ≡ range_with_len a (k - a) ++ k ∷ []
range_more a k le =
    let count : k + 1 - a ≡ suc (k - a) = omega (arith, le) in
    let last : a + (k - a) ≡ k = omega (arith, le) in
    ap (range_with_len a) count ∙ range_push a (k - a) ∙ ap (λ (m : ℕ). range_with_len a (k - a) ++ m ∷ []) last

-- what one number more adds
pub flat_more : {A : Type 0} (f : ℕ → List A) (a k : ℕ) → a ≤ k → flat_map f (range_with_len a (k + 1 - a)) ≡ flat_map f (range_with_len a (k - a)) ++ f k
flat_more f a k le =
    ap (flat_map f) (range_more a k le) ∙ flat_map-append f (range_with_len a (k - a)) (k ∷ []) ∙ ap (λ ys. flat_map f (range_with_len a (k - a)) ++ ys) (append-nil (f k))

-- the same behind what stood there before
pub behind_more : {A : Type 0} (f : ℕ → List A) (a k : ℕ) (initial old new : List A) → a ≤ k → old ≡ initial ++ flat_map f (range_with_len a (k - a)) → new ≡ old ++ f k → new ≡ initial ++ flat_map f (range_with_len a (k + 1 - a))
behind_more f a k initial old new le is added =
    added ∙ ap (λ ys. ys ++ f k) is ∙ append_assoc initial (flat_map f (range_with_len a (k - a))) (f k) ∙ ap (λ ys. initial ++ ys) (sym (flat_more f a k le))

-- before the first number
pub behind_none : {A : Type 0} (f : ℕ → List A) (a : ℕ) (initial : List A) → initial ≡ initial ++ flat_map f (range_with_len a (a - a))
behind_none f a initial =
    let none : 0 ≡ a - a = omega arith in
    sym (append-nil initial) ∙ ap (λ (n : ℕ). initial ++ flat_map f (range_with_len a n)) none

-- two entries behind one another
pub append_two : {A : Type 0} (xs ys zs : List A) (x y : A) → ys ≡ xs ++ x ∷ [] → zs ≡ ys ++ y ∷ [] → zs ≡ xs ++ (x ∷ y ∷ [])
append_two xs ys zs x y one two = two ∙ ap (λ ws. ws ++ y ∷ []) one ∙ append_assoc xs (x ∷ []) (y ∷ [])

-- ---- entries with a comma behind each

pub one_entry : (f : ℕ → List ℕ) (k : ℕ) (old middle new : List ℕ) → middle ≡ old ++ f k → new ≡ middle ++ 44 ∷ [] → new ≡ old ++ (f k ++ 44 ∷ [])
one_entry f k old middle new one two = two ∙ ap (λ (s : List ℕ). s ++ 44 ∷ []) one ∙ append_assoc old (f k) (44 ∷ [])

entries_are : (f : ℕ → List ℕ) (ks rest : List ℕ) → flat_map (λ k. f k ++ 44 ∷ []) ks ++ rest ≡ entries_before f ks rest
entries_are f [] rest = refl
entries_are f (k ∷ ks) rest =
    append_assoc (f k ++ 44 ∷ []) (flat_map (λ k. f k ++ 44 ∷ []) ks) rest
    ∙ append_assoc (f k) (44 ∷ []) (flat_map (λ k. f k ++ 44 ∷ []) ks ++ rest)
    ∙ ap (λ (s : List ℕ). f k ++ 44 ∷ s) (entries_are f ks rest)

-- two entries more, and what stands behind all
pub ended : (f : ℕ → List ℕ) (ks head loop t1 t2 t3 t4 s e tail : List ℕ) → loop ≡ head ++ flat_map (λ k. f k ++ 44 ∷ []) ks → t1 ≡ loop ++ s → t2 ≡ t1 ++ 44 ∷ [] → t3 ≡ t2 ++ e → t4 ≡ t3 ++ tail
    → t4 ≡ head ++ entries_before f ks (s ++ 44 ∷ (e ++ tail))
ended f ks head loop t1 t2 t3 t4 s e tail entries one two three four =
    let flat : List ℕ = flat_map (λ k. f k ++ 44 ∷ []) ks in
    let rest : List ℕ = s ++ 44 ∷ (e ++ tail) in
    let last : t4 ≡ t2 ++ (e ++ tail) = four ∙ ap (λ (t : List ℕ). t ++ tail) three ∙ append_assoc t2 e tail in
    let before : t2 ≡ loop ++ (s ++ 44 ∷ []) = two ∙ ap (λ (t : List ℕ). t ++ 44 ∷ []) one ∙ append_assoc loop s (44 ∷ []) in
    let joined : (loop ++ (s ++ 44 ∷ [])) ++ (e ++ tail) ≡ loop ++ rest = append_assoc loop (s ++ 44 ∷ []) (e ++ tail) ∙ ap (λ (t : List ℕ). loop ++ t) (append_assoc s (44 ∷ []) (e ++ tail)) in
    last ∙ ap (λ (t : List ℕ). t ++ (e ++ tail)) before ∙ joined ∙ ap (λ (t : List ℕ). t ++ rest) entries ∙ append_assoc head flat rest ∙ ap (λ (t : List ℕ). head ++ t) (entries_are f ks rest)

-- ---- pieces behind one another

pub record Adds (old new piece : List ℕ) : Type 0 where
  pub is : new ≡ old ++ piece

pub add : {old new piece : List ℕ} → new ≡ old ++ piece → Adds old new piece
add e = record { is = e }

-- a piece that is the same as another
pub add_same : {old new piece other : List ℕ} → new ≡ old ++ piece → piece ≡ other → Adds old new other
add_same {old} e same = record { is = e ∙ ap (λ (s : List ℕ). old ++ s) same }

pub adds : {old middle new a b : List ℕ} → Adds old middle a → Adds middle new b → Adds old new (a ++ b)
adds {old} {middle} {new} {a} {b} first second = record { is = second.is ∙ ap (λ (t : List ℕ). t ++ b) first.is ∙ append_assoc old a b }
