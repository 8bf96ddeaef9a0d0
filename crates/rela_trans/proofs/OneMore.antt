-- One element more of a list that is mapped as it is read.
use Rattle.std.proofs.Common.{◌≡◌, ℕ, ◌+◌, ◌<◌, List, [], ◌∷◌, ◌++◌, length, get_or, take, map, sym, ap, ◌∙◌, append_assoc}
use Rattle.std.specs.List.{flat_map}
use Rattle.std.proofs.lemmas.Grind.{flat_map-append}
use Rattle.std.proofs.lemmas.List.{append-nil, map-append, take_more}

pub one_more : {E M Y : Type 0} (v : E → M) (f : M → List Y) (xs : List E) (i : ℕ) (x : E) → i < length xs → get_or xs i x ≡ x
    → flat_map f (map v (take (i + 1) xs)) ≡ flat_map f (map v (take i xs)) ++ f (v x)
one_more v f xs i x below at =
    ap (λ l. flat_map f (map v l)) (take_more xs i x below ∙ ap (λ y. take i xs ++ y ∷ []) at) ∙ ap (flat_map f) (map-append v (take i xs) (x ∷ []))
    ∙ flat_map-append f (map v (take i xs)) (v x ∷ []) ∙ ap (λ l. flat_map f (map v (take i xs)) ++ l) (append-nil (f (v x)))

-- by what it gives, a list
pub flat_more : {E M Y : Type 0} (v : E → M) (f : M → List Y) (xs : List E) (i : ℕ) (x : E) (old mid new : List Y) → i < length xs → get_or xs i x ≡ x → mid ≡ old ++ flat_map f (map v (take i xs))
    → new ≡ mid ++ f (v x) → new ≡ old ++ flat_map f (map v (take (i + 1) xs))
flat_more v f xs i x old mid new below at so_far added =
    added ∙ ap (λ l. l ++ f (v x)) so_far ∙ append_assoc old (flat_map f (map v (take i xs))) (f (v x)) ∙ ap (λ l. old ++ l) (sym (one_more v f xs i x below at))

-- by what each of such a list is mapped to
pub mapped_more : {E M Y Z : Type 0} (v : E → M) (xs : List E) (i : ℕ) (x : E) → i < length xs → get_or xs i x ≡ x → (f : M → List Y) (h : Y → Z) (old mid new : List Z)
    → mid ≡ old ++ map h (flat_map f (map v (take i xs))) → new ≡ mid ++ map h (f (v x)) → new ≡ old ++ map h (flat_map f (map v (take (i + 1) xs)))
mapped_more v xs i x below at f h old mid new so_far added =
    let done = flat_map f (map v (take i xs)) in
    added ∙ ap (λ l. l ++ map h (f (v x))) so_far ∙ append_assoc old (map h done) (map h (f (v x)))
    ∙ ap (λ l. old ++ l) (sym (map-append h done (f (v x))) ∙ ap (map h) (sym (one_more v f xs i x below at)))

-- by one item
pub once_more : {E Y : Type 0} (f : E → Y) (xs : List E) (i : ℕ) (x : E) (mid new : List Y) → i < length xs → get_or xs i x ≡ x → mid ≡ map f (take i xs) → new ≡ mid ++ f x ∷ [] → new ≡ map f (take (i + 1) xs)
once_more f xs i x mid new below at so_far added =
    added ∙ ap (λ l. l ++ f x ∷ []) so_far ∙ sym (ap (map f) (take_more xs i x below ∙ ap (λ y. take i xs ++ y ∷ []) at) ∙ map-append f (take i xs) (x ∷ []))

-- by one item of another
pub twice_more : {E M Y : Type 0} (v : E → M) (f : M → Y) (xs : List E) (i : ℕ) (x : E) (mid new : List Y) → i < length xs → get_or xs i x ≡ x → mid ≡ map f (map v (take i xs)) → new ≡ mid ++ f (v x) ∷ []
    → new ≡ map f (map v (take (i + 1) xs))
twice_more v f xs i x mid new below at so_far added =
    added ∙ ap (λ l. l ++ f (v x) ∷ []) so_far
    ∙ sym (ap (λ l. map f (map v l)) (take_more xs i x below ∙ ap (λ y. take i xs ++ y ∷ []) at) ∙ ap (map f) (map-append v (take i xs) (x ∷ [])) ∙ map-append f (map v (take i xs)) (v x ∷ []))
