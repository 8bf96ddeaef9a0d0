-- Texts in a row that grows at its end.
use Rattle.std.proofs.Common.{◌≡◌, ◌<◌, ℕ, ◌+◌, List, [], ◌∷◌, ◌++◌, ◌≤◌, length, get_or, take, map, refl, ap, sym, append_assoc}
use Rattle.std.proofs.lemmas.List.{take_more, take_all, append-nil}
use Rattle.rela_print.specs.Joined.{behind, joined}

pub behind_append : {X : Type 0} (between : List ℕ) (text : X → List ℕ) (xs : List X) (x : X) → behind between text (xs ++ x ∷ []) ≡ behind between text xs ++ (between ++ text x)
unfolding behind
behind_append between text [] x = append-nil (between ++ text x)
behind_append between text (y ∷ ys) x = rw (behind_append between text ys x) (sym (append_assoc (between ++ text y) (behind between text ys) (between ++ text x)))

pub behind_more : {X : Type 0} (between : List ℕ) (text : X → List ℕ) (xs : List X) (i : ℕ) (x : X) → i < length xs → x ≡ get_or xs i x → behind between text (take (i + 1) xs) ≡ behind between text (take i xs) ++ (between ++ text x)
behind_more between text xs i x h e = rw (take_more xs i x h, ← e) (behind_append between text (take i xs) x)

pub behind_none : {X : Type 0} (between : List ℕ) (text : X → List ℕ) → behind between text [] ≡ []
unfolding behind
behind_none between text = refl

pub joined_first : {X : Type 0} (between : List ℕ) (text : X → List ℕ) (x : X) (xs : List X) → joined between text (x ∷ xs) ≡ text x ++ behind between text xs
unfolding joined
joined_first between text x xs = refl

pub joined_none : {X : Type 0} (between : List ℕ) (text : X → List ℕ) → joined between text [] ≡ []
unfolding joined
joined_none between text = refl

behind_map : {X Y : Type 0} (between : List ℕ) (text : Y → List ℕ) (f : X → Y) (xs : List X) → behind between text (map f xs) ≡ behind between (λ x. text (f x)) xs
unfolding behind
behind_map between text f [] = refl
behind_map between text f (x ∷ xs) = ap (λ t. (between ++ text (f x)) ++ t) (behind_map between text f xs)

pub joined_map : {X Y : Type 0} (between : List ℕ) (text : Y → List ℕ) (f : X → Y) (xs : List X) → joined between text (map f xs) ≡ joined between (λ x. text (f x)) xs
unfolding joined
joined_map between text f [] = refl
joined_map between text f (x ∷ xs) = ap (λ t. text (f x) ++ t) (behind_map between text f xs)

-- what a loop over the later items has written once it is through
pub row_is_whole : {X : Type 0} (between : List ℕ) (text : X → List ℕ) (before mid after : List ℕ) (x : X) (xs ys : List X) (i : ℕ) → ys ≡ x ∷ xs → length xs ≤ i → mid ≡ before ++ text x → after ≡ mid ++ behind between text (take i xs) → after ≡ before ++ joined between text ys
row_is_whole between text before mid after x xs ys i e h m a = rw (a, m, take_all i xs h, e, joined_first between text x xs) (append_assoc before (text x) (behind between text xs))

-- one more item in such a loop
pub row_goes_on : {X : Type 0} (between : List ℕ) (text : X → List ℕ) (start out mid after : List ℕ) (xs : List X) (i : ℕ) (x : X) → i < length xs → x ≡ get_or xs i x → out ≡ start ++ behind between text (take i xs) → mid ≡ out ++ between → after ≡ mid ++ text x → after ≡ start ++ behind between text (take (i + 1) xs)
row_goes_on between text start out mid after xs i x h e o m a = rw (a, m, o, behind_more between text xs i x h e) (simp append_assoc)

pub row_begins : {X : Type 0} (between : List ℕ) (text : X → List ℕ) (out : List ℕ) → out ≡ out ++ behind between text []
row_begins between text out = rw (behind_none between text) (sym (append-nil out))

pub row_is_empty : {X : Type 0} (between : List ℕ) (text : X → List ℕ) (out : List ℕ) (xs : List X) → xs ≡ [] → out ≡ out ++ joined between text xs
row_is_empty between text out xs e = rw (e, joined_none between text) (sym (append-nil out))
