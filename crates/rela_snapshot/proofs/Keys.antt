-- The keys of a table as the names that they point to.
use Rattle.std.proofs.Common.{◌≡◌, ◌∙◌, refl, sym, ap, ℕ, ◌+◌, Bool, true, false, not, ◌||◌, cond, nat_lt, List, [], ◌∷◌, ◌++◌, length, map, Some, None, Bor, arith}
use Rattle.std.specs.List.{list_any, prefix_len, position, position_or_len}
use Rattle.std.specs.Str.{bytes_eq}
use Rattle.std.proofs.lemmas.List.{map-append, length-map}
use Rattle.rela_snapshot.specs.Names.{AreTableNames, has_name, place_of, with_name}
use Rattle.rela_snapshot.proofs.Distinct.{table_none}

pub list_any-map : {X Y : Type 0} (p : Y → Bool) (f : X → Y) (xs : List X) → list_any (λ x. p (f x)) xs ≡ list_any p (map f xs)
list_any-map p f [] = refl
list_any-map p f (x ∷ xs) = ap (λ b. p (f x) || b) (list_any-map p f xs)

pub prefix_len-map : {X Y : Type 0} (p : Y → Bool) (f : X → Y) (xs : List X) → prefix_len (λ x. p (f x)) xs ≡ prefix_len p (map f xs)
prefix_len-map p f [] = refl
prefix_len-map p f (x ∷ xs) = ap (λ n. cond (p (f x)) (1 + n) 0) (prefix_len-map p f xs)

pub position-map : {X Y : Type 0} (p : Y → Bool) (f : X → Y) (xs : List X) → position (λ x. p (f x)) xs ≡ position p (map f xs)
position-map p f xs =
    ap (λ n. cond (nat_lt n (length xs)) (Some n) None) (prefix_len-map (λ y. not (p y)) f xs)
    ∙ ap (λ m. cond (nat_lt (position_or_len p (map f xs)) m) (Some (position_or_len p (map f xs))) None) (sym (length-map xs f))

pub has_name-keys : (names : List (List ℕ)) (name : List ℕ) (keys : List (Bor (List ℕ))) → map (λ k. k.now) keys ≡ names → list_any (λ k. bytes_eq name k.now) keys ≡ has_name names name
has_name-keys names name keys e = list_any-map (bytes_eq name) (λ (k : Bor (List ℕ)). k.now) keys ∙ ap (λ ns. has_name ns name) e

pub place_of-keys : (names : List (List ℕ)) (name : List ℕ) (keys : List (Bor (List ℕ))) → map (λ k. k.now) keys ≡ names → position (λ k. bytes_eq name k.now) keys ≡ place_of names name
place_of-keys names name keys e = position-map (bytes_eq name) (λ (k : Bor (List ℕ)). k.now) keys ∙ ap (λ ns. place_of ns name) e

abbrev pub insert_key : List (Bor (List ℕ)) → Bor (List ℕ) → List (Bor (List ℕ))
insert_key keys name = cond (list_any (λ k. bytes_eq name.now k.now) keys) keys (keys ++ name ∷ [])

pub with_name-keys : (names : List (List ℕ)) (name : Bor (List ℕ)) (keys new : List (Bor (List ℕ))) → map (λ k. k.now) keys ≡ names → new ≡ insert_key keys name → map (λ k. k.now) new ≡ with_name names name.now
with_name-keys names name keys new e f =
    ap (λ ks. map (λ (k : Bor (List ℕ)). k.now) ks) f ∙ by (list_any (λ k. bytes_eq name.now k.now) keys) (has_name-keys names name.now keys e)
  where
    by : (b : Bool) → b ≡ has_name names name.now → map (λ k. k.now) (cond b keys (keys ++ name ∷ [])) ≡ with_name names name.now
    by true h = e ∙ ap (λ b. cond b names (names ++ name.now ∷ [])) h
    by false h = map-append (λ (k : Bor (List ℕ)). k.now) keys (name ∷ []) ∙ ap (λ ns. ns ++ name.now ∷ []) e ∙ ap (λ b. cond b names (names ++ name.now ∷ [])) h

pub table_empty : (keys : List (Bor (List ℕ))) → length keys ≡ 0 → AreTableNames (map (λ k. k.now) keys)
table_empty [] none = table_none [] refl
table_empty (k ∷ ks) none = absurd (omega (arith, none))
