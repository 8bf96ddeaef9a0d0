-- The places of an entry, as far as a loop has come.
use Rattle.std.proofs.Common.{zero, suc, ◌≡◌, ◌≢◌, ℕ, ◌+◌, ◌<◌, Bool, true, false, cond, ◌==◌, List, [], ◌∷◌, ◌++◌, length, get_or, map, filter, refl, ap, sym, ◌∙◌, arith}
use Rattle.std.specs.Prelude.{slice_set, slice_index}
use Rattle.std.specs.List.{range_with_len}
use Rattle.std.proofs.lemmas.List.{get_or-set_same, get_or-set_other, append-nil}
use Rattle.std.proofs.lemmas.List.Elements.{filter-append}
use Rattle.std.proofs.lemmas.Bool.{eq-eqb}
use Rattle.rela_locations.proofs.Parents.{equal_numbers}

range_more : (a n : ℕ) → range_with_len a (n + 1) ≡ range_with_len a n ++ (a + n) ∷ []
range_more a zero = let first : a ≡ a + 0 = omega arith in ap (λ x. x ∷ []) first
range_more a (suc n) =
    let next : suc n + 1 ≡ suc (n + 1) = omega arith in
    let last : (a + 1) + n ≡ a + suc n = omega arith in
    rw next (ap (λ xs. a ∷ xs) (range_more (a + 1) n ∙ ap (λ x. range_with_len (a + 1) n ++ x ∷ []) last))

last_or_not : (p : ℕ → Bool) (n : ℕ) → filter p (n ∷ []) ≡ cond (p n) (n ∷ []) []
last_or_not p n = refl

pub filter_range_more : (p : ℕ → Bool) (n : ℕ) → filter p (range_with_len 0 (n + 1)) ≡ filter p (range_with_len 0 n) ++ cond (p n) (n ∷ []) []
filter_range_more p n =
    let last : 0 + n ≡ n = omega arith in
    ap (filter p) (range_more 0 n ∙ ap (λ x. range_with_len 0 n ++ x ∷ []) last) ∙ filter-append p (range_with_len 0 n) (n ∷ [])

-- the places before place n that have the entry
abbrev pub places_before : List ℕ → ℕ → ℕ → List ℕ
places_before table n entry = filter (λ place. slice_index table place == entry) (range_with_len 0 n)

by_entry : (table : List ℕ) (lists : List (List ℕ)) (n k : ℕ) (b : Bool) → (slice_index table n == k) ≡ b → slice_index table n < length lists
    → get_or lists k [] ≡ places_before table n k
    → get_or (slice_set lists (slice_index table n) (get_or lists (slice_index table n) [] ++ n ∷ [])) k [] ≡ places_before table n k ++ cond b (n ∷ []) []
by_entry table lists n k true is within before =
    let same : slice_index table n ≡ k = equal_numbers _ k is in
    rw (same, get_or-set_same lists k (get_or lists k [] ++ n ∷ []) [] (rw same at within), before) refl
by_entry table lists n k false is within before =
    let other : k ≢ slice_index table n = λ same. let yes = eq-eqb (slice_index table n) k (sym same) in cc in
    get_or-set_other lists (slice_index table n) k (get_or lists (slice_index table n) [] ++ n ∷ []) [] other
    ∙ before ∙ sym (append-nil (places_before table n k))

-- place n is put to the list of its entry
pub place_put : (table : List ℕ) (lists : List (List ℕ)) (n k : ℕ) → slice_index table n < length lists → get_or lists k [] ≡ places_before table n k
    → get_or (slice_set lists (slice_index table n) (get_or lists (slice_index table n) [] ++ n ∷ [])) k [] ≡ places_before table (n + 1) k
place_put table lists n k within before =
    by_entry table lists n k (slice_index table n == k) refl within before ∙ sym (filter_range_more (λ place. slice_index table place == k) n)

-- a field of what stands at a place
pub field_at : {X : Type 0} (f : X → List ℕ) (xs : List X) (k : ℕ) (x : X) → k < length xs → x ≡ get_or xs k x → f x ≡ get_or (map f xs) k []
field_at f [] k x within is = absurd (omega arith)
field_at f (y ∷ xs) zero x within is = ap f is
field_at f (y ∷ xs) (suc k) x within is = field_at f xs k x (omega arith) is
