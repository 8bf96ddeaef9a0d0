-- What names in order have after one more name, and how many they are.
use Rattle.std.proofs.Common.{◌≡◌, ◌∙◌, refl, sym, ap, ℕ, suc, ◌<◌, ◌≤◌, Bool, true, false, cond, ◌||◌, List, [], ◌∷◌, length, Some, None, lt-ltb, arith}
use Rattle.std.specs.List.{list_any, position_or_len}
use Rattle.std.specs.declared.cmp.Ordering.{Ordering}
use Rattle.std.specs.declared.cmp.Ordering.TheVariants.{Less, Equal, Greater}
use Rattle.std.specs.Ordering.{is_eq, match_ordering}
use Rattle.std.specs.Str.{bytes_eq}
use Rattle.std.proofs.lemmas.Map.Text.{is_eq-slice_cmp}
use Rattle.std.proofs.lemmas.Slice.Eq.{bytes_eq-Decides}
use Rattle.rela_names.specs.Name.{bytes_cmp}
use Rattle.rela_locations.specs.Names.{ascending, has_name, with_name, with_names}
use Rattle.rela_snapshot.specs.Names.{place_of}

or_false : (a : Bool) → (a || false) ≡ a
or_false true = refl
or_false false = refl

or_swap : (a b c : Bool) → (a || (b || c)) ≡ (b || (a || c))
or_swap true true c = refl
or_swap true false c = refl
or_swap false b c = refl

or_again : (a c : Bool) → (a || (a || c)) ≡ (a || c)
or_again true c = refl
or_again false c = refl

or_middle : (a b c : Bool) → ((a || b) || c) ≡ (b || (a || c))
or_middle true true c = refl
or_middle true false c = refl
or_middle false b c = refl

same_name : (a b : List ℕ) → bytes_eq a b ≡ true → a ≡ b
same_name a b e = (bytes_eq-Decides a b).0 e

has_by_order : (names : List (List ℕ)) (n x m : List ℕ) (o : Ordering) → bytes_cmp n x ≡ o
    → has_name (with_name names n) m ≡ (bytes_eq m n || has_name names m)
    → has_name (match_ordering o (n ∷ x ∷ names) (x ∷ names) (x ∷ with_name names n)) m ≡ (bytes_eq m n || (bytes_eq m x || has_name names m))
has_by_order names n x m Less is later = refl
has_by_order names n x m Equal is later =
    let same : n ≡ x = same_name n x (sym (is_eq-slice_cmp n x) ∙ ap is_eq is) in
    rw same (sym (or_again (bytes_eq m x) (has_name names m)))
has_by_order names n x m Greater is later = rw later (or_swap (bytes_eq m x) (bytes_eq m n) (has_name names m))

pub has_with_name : (names : List (List ℕ)) (n m : List ℕ) → has_name (with_name names n) m ≡ (bytes_eq m n || has_name names m)
has_with_name [] n m = refl
has_with_name (x ∷ names) n m = has_by_order names n x m (bytes_cmp n x) refl (has_with_name names n m)

has_with_names : (names more : List (List ℕ)) (m : List ℕ) → has_name (with_names names more) m ≡ (has_name names m || has_name more m)
has_with_names names [] m = sym (or_false (has_name names m))
has_with_names names (n ∷ more) m =
    has_with_names (with_name names n) more m
    ∙ ap (λ b. b || has_name more m) (has_with_name names n m)
    ∙ or_middle (bytes_eq m n) (has_name names m) (has_name more m)

-- the order of names loses none and adds none
pub has_ascending : (names : List (List ℕ)) (m : List ℕ) → has_name (ascending names) m ≡ has_name names m
has_ascending names m = has_with_names [] names m

length_by_order : (o : Ordering) (n x : List ℕ) (names more : List (List ℕ)) → length more ≤ suc (length names) → length (match_ordering o (n ∷ x ∷ names) (x ∷ names) (x ∷ more)) ≤ suc (suc (length names))
length_by_order Less n x names more le = omega arith
length_by_order Equal n x names more le = omega arith
length_by_order Greater n x names more le = omega (arith, le)

-- one more at most
pub length_with_name : (names : List (List ℕ)) (n : List ℕ) → length (with_name names n) ≤ suc (length names)
length_with_name [] n = omega arith
length_with_name (x ∷ names) n = length_by_order (bytes_cmp n x) n x names (with_name names n) (length_with_name names n)

-- ---- places

later_true : (b c : Bool) → b ≡ false → (b || c) ≡ true → c ≡ true
later_true true c is h = cc
later_true false c is h = h

place_in : (b : Bool) (p : List ℕ → Bool) (x : List ℕ) (xs : List (List ℕ)) → p x ≡ b → (list_any p xs ≡ true → position_or_len p xs < length xs) → list_any p (x ∷ xs) ≡ true → position_or_len p (x ∷ xs) < length (x ∷ xs)
place_in true p x xs is rest any = rw is (omega arith)
place_in false p x xs is rest any = let after : position_or_len p xs < length xs = rest (later_true (p x) (list_any p xs) is any) in rw is (omega (arith, after))

any_place : (p : List ℕ → Bool) (xs : List (List ℕ)) → list_any p xs ≡ true → position_or_len p xs < length xs
any_place p [] any = cc
any_place p (x ∷ xs) any = place_in (p x) p x xs refl (any_place p xs) any

-- a name that is there is found
pub place_found : (names : List (List ℕ)) (name : List ℕ) → has_name names name ≡ true → place_of names name ≡ Some (position_or_len (bytes_eq name) names)
place_found names name has =
    let place : ℕ = position_or_len (bytes_eq name) names in
    ap (λ (b : Bool). cond b (Some place) None) (lt-ltb place (length names) (any_place (bytes_eq name) names has))
