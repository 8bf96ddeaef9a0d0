-- Arrays that are written one entry after the other.
use Rattle.std.proofs.Common.{◌≡◌, ◌∙◌, refl, sym, ap, subst, ℕ, zero, suc, ◌+◌, ◌*◌, ◌<◌, ◌≤◌, Bool, true, false, ltb, lt-ltb, List, [], ◌∷◌, ◌++◌, length, map, get_or, take, append_assoc, arith}
use Rattle.std.proofs.lemmas.List.{append-nil, length-append, take_more, map-append}
use Rattle.std.specs.List.{All}
use Rattle.std.proofs.Math.Nat.{mul-suc}
use Rattle.std.proofs.lemmas.List.Elements.{All-head, All-tail}
use Rattle.serde_json.specs.Data.{Data}
use Rattle.serde_json.specs.View.{items_of}
use Rattle.serde_json.specs.Written.{comma_if, compact_text, items_text}
use Rattle.rela_demo.specs.Text.{list_data}
use Rattle.rela_demo.specs.Pieces.{array_text, commas}

times_suc : (a n : ℕ) → a + a * n ≡ a * suc n
times_suc a n = omega (arith, mul-suc a n)

is_later : Bool → List (List ℕ) → Bool
is_later later [] = later
is_later later (t ∷ ts) = true

commas_push : (later : Bool) (ts : List (List ℕ)) (t : List ℕ) → commas later (ts ++ t ∷ []) ≡ commas later ts ++ (comma_if (is_later later ts) ++ t)
unfolding is_later
commas_push later [] t = ap (λ (s : List ℕ). comma_if later ++ s) (append-nil t)
commas_push later (u ∷ []) t = ap (λ (s : List ℕ). comma_if later ++ s) (ap (λ (s : List ℕ). u ++ s) (commas_push true [] t) ∙ sym (append_assoc u [] (comma_if true ++ t))) ∙ sym (append_assoc (comma_if later) (u ++ []) (comma_if true ++ t))
commas_push later (u ∷ v ∷ ts) t =
    ap (λ (s : List ℕ). comma_if later ++ (u ++ s)) (commas_push true (v ∷ ts) t)
    ∙ ap (λ (s : List ℕ). comma_if later ++ s) (sym (append_assoc u (commas true (v ∷ ts)) (comma_if true ++ t)))
    ∙ sym (append_assoc (comma_if later) (u ++ commas true (v ∷ ts)) (comma_if true ++ t))

later_take : {A : Type 0} (f : A → List ℕ) (xs : List A) (i : ℕ) → i < length xs → is_later false (map f (take i xs)) ≡ ltb 0 i
unfolding is_later
later_take f [] i lt = absurd (omega (arith, lt))
later_take f (x ∷ xs) zero lt = refl
later_take f (x ∷ xs) (suc i) lt = sym (lt-ltb 0 (suc i) (omega arith))

-- one entry more
pub commas_more : {A : Type 0} (f : A → List ℕ) (xs : List A) (i : ℕ) (d : A) → i < length xs → commas false (map f (take (i + 1) xs)) ≡ commas false (map f (take i xs)) ++ (comma_if (ltb 0 i) ++ f (get_or xs i d))
commas_more f xs i d lt =
    ap (λ ys. commas false (map f ys)) (take_more xs i d lt)
    ∙ ap (commas false) (map-append f (take i xs) (get_or xs i d ∷ []))
    ∙ commas_push false (map f (take i xs)) (f (get_or xs i d))
    ∙ ap (λ b. commas false (map f (take i xs)) ++ (comma_if b ++ f (get_or xs i d))) (later_take f xs i lt)

-- an array that isn't closed yet, behind the text from before
abbrev pub Opened : {A : Type 0} → (A → List ℕ) → List A → List ℕ → List ℕ → Type 0
Opened f xs before text = text ≡ before ++ 91 ∷ commas false (map f xs)

pub opened_none : {A : Type 0} (f : A → List ℕ) (xs : List A) (before text : List ℕ) → text ≡ before ++ 91 ∷ [] → Opened f (take 0 xs) before text
opened_none f [] before text is = is
opened_none f (x ∷ xs) before text is = is

pub opened_more : {A : Type 0} (f : A → List ℕ) (xs : List A) (i : ℕ) (d : A) (before text text1 text2 : List ℕ) → i < length xs → Opened f (take i xs) before text → text1 ≡ text ++ comma_if (ltb 0 i) → text2 ≡ text1 ++ f (get_or xs i d) → Opened f (take (i + 1) xs) before text2
opened_more f xs i d before text text1 text2 lt is comma entry =
    let whole : commas false (map f (take (i + 1) xs)) ≡ commas false (map f (take i xs)) ++ (comma_if (ltb 0 i) ++ f (get_or xs i d)) = commas_more f xs i d lt in
    entry ∙ ap (λ (s : List ℕ). s ++ f (get_or xs i d)) (comma ∙ ap (λ (s : List ℕ). s ++ comma_if (ltb 0 i)) is)
    ∙ append_assoc (before ++ 91 ∷ commas false (map f (take i xs))) (comma_if (ltb 0 i)) (f (get_or xs i d))
    ∙ append_assoc before (91 ∷ commas false (map f (take i xs))) (comma_if (ltb 0 i) ++ f (get_or xs i d))
    ∙ ap (λ (s : List ℕ). before ++ 91 ∷ s) (sym whole)

items_are : {A : Type 0} (data_of : A → Data) (later : Bool) (xs : List A) → items_text later (items_of (map data_of xs)) ≡ commas later (map (λ x. compact_text (data_of x)) xs) ++ 93 ∷ []
items_are data_of later [] = refl
items_are data_of later (x ∷ xs) =
    ap (λ (s : List ℕ). comma_if later ++ (compact_text (data_of x) ++ s)) (items_are data_of true xs)
    ∙ ap (λ (s : List ℕ). comma_if later ++ s) (sym (append_assoc (compact_text (data_of x)) (commas true (map (λ x. compact_text (data_of x)) xs)) (93 ∷ [])))
    ∙ sym (append_assoc (comma_if later) (compact_text (data_of x) ++ commas true (map (λ x. compact_text (data_of x)) xs)) (93 ∷ []))

pub list_is : {A : Type 0} (data_of : A → Data) (xs : List A) → compact_text (list_data data_of xs) ≡ array_text (λ x. compact_text (data_of x)) xs
list_is data_of xs = ap (λ (s : List ℕ). 91 ∷ s) (items_are data_of false xs)

pub closed_array : {A : Type 0} (f : A → List ℕ) (xs taken : List A) (before text new : List ℕ) → taken ≡ xs → Opened f taken before text → new ≡ text ++ 93 ∷ [] → new ≡ before ++ array_text f xs
closed_array f xs taken before text new all is close =
    close ∙ ap (λ (s : List ℕ). s ++ 93 ∷ []) (is ∙ ap (λ ys. before ++ 91 ∷ commas false (map f ys)) all) ∙ append_assoc before (91 ∷ commas false (map f xs)) (93 ∷ [])

pub closed : {A : Type 0} (data_of : A → Data) (xs taken : List A) (before text new : List ℕ) → taken ≡ xs → Opened (λ x. compact_text (data_of x)) taken before text → new ≡ text ++ 93 ∷ [] → new ≡ before ++ compact_text (list_data data_of xs)
closed data_of xs taken before text new all is close = closed_array (λ x. compact_text (data_of x)) xs taken before text new all is close ∙ ap (λ (s : List ℕ). before ++ s) (sym (list_is data_of xs))

-- ---- lengths

comma_length : (later : Bool) → length (comma_if later) ≤ 1
comma_length true = omega arith
comma_length false = omega arith

commas_length : {A : Type 0} (c : ℕ) (f : A → List ℕ) (later : Bool) (xs : List A) → All (λ x. length (f x) ≤ c) xs → length (commas later (map f xs)) ≤ (c + 1) * length xs
commas_length c f later [] h = omega arith
commas_length c f later (x ∷ xs) h =
    let one : length (f x) ≤ c = All-head (λ x. length (f x) ≤ c) x xs h in
    let rest : length (commas true (map f xs)) ≤ (c + 1) * length xs = commas_length c f true xs (All-tail (λ x. length (f x) ≤ c) x xs h) in
    let whole : length (comma_if later ++ (f x ++ commas true (map f xs))) ≤ (c + 1) + (c + 1) * length xs =
    omega (arith, one, rest, comma_length later, length-append (comma_if later) (f x ++ commas true (map f xs)), length-append (f x) (commas true (map f xs))) in
    subst (λ (m : ℕ). length (comma_if later ++ (f x ++ commas true (map f xs))) ≤ m) (times_suc (c + 1) (length xs)) whole

pub array_length : {A : Type 0} (c : ℕ) (f : A → List ℕ) (xs : List A) → All (λ x. length (f x) ≤ c) xs → length (array_text f xs) ≤ (c + 1) * length xs + 2
array_length c f xs h = omega (arith, commas_length c f false xs h, length-append (commas false (map f xs)) (93 ∷ []))
