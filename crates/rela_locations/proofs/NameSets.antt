-- What a set of names has after more names were put into it.
use Rattle.std.proofs.Common.{zero, suc, ◌≡◌, ℕ, true, false, ◌||◌, List, [], ◌∷◌, ◌++◌, Some, slice_get, refl, ap, sym, ◌∙◌}
use Rattle.std.specs.declared.cmp.Ordering.{Ordering}
use Rattle.std.specs.declared.cmp.Ordering.TheVariants.{Less, Equal, Greater}
use Rattle.std.specs.Ordering.{is_eq, match_ordering}
use Rattle.std.specs.Str.{bytes_eq}
use Rattle.std.proofs.lemmas.Map.Text.{is_eq-slice_cmp}
use Rattle.std.proofs.lemmas.Slice.Eq.{bytes_eq-Decides}
use Rattle.rela_names.specs.Name.{bytes_cmp}
use Rattle.rela_locations.specs.Names.{with_name, with_names, ascending, has_name}
use Rattle.rela_locations.specs.Tables.{AreNew}
use Rattle.rela_locations.proofs.Bools.{or_false, or_swap, or_again, or_middle, right_of_false}

pub same_name : (a b : List ℕ) → bytes_eq a b ≡ true → a ≡ b
same_name a b e = (bytes_eq-Decides a b).0 e

pub name_is_itself : (a : List ℕ) → bytes_eq a a ≡ true
name_is_itself a = (bytes_eq-Decides a a).1 refl

has_by_order : (names : List (List ℕ)) (n x m : List ℕ) (o : Ordering) → bytes_cmp n x ≡ o
    → has_name (with_name names n) m ≡ (bytes_eq m n || has_name names m)
    → has_name (match_ordering o (n ∷ x ∷ names) (x ∷ names) (x ∷ with_name names n)) m ≡ (bytes_eq m n || (bytes_eq m x || has_name names m))
has_by_order names n x m Less is later = refl
has_by_order names n x m Equal is later =
    let same : n ≡ x = same_name n x (sym (is_eq-slice_cmp n x) ∙ ap is_eq is) in
    rw same (sym (or_again (bytes_eq m x) (has_name names m)))
has_by_order names n x m Greater is later = rw later (or_swap (bytes_eq m x) (bytes_eq m n) (has_name names m))

pub has_name-with_name : (names : List (List ℕ)) (n m : List ℕ) → has_name (with_name names n) m ≡ (bytes_eq m n || has_name names m)
has_name-with_name [] n m = refl
has_name-with_name (x ∷ names) n m = has_by_order names n x m (bytes_cmp n x) refl (has_name-with_name names n m)

pub has_name-with_names : (names more : List (List ℕ)) (m : List ℕ) → has_name (with_names names more) m ≡ (has_name names m || has_name more m)
has_name-with_names names [] m = sym (or_false (has_name names m))
has_name-with_names names (n ∷ more) m =
    has_name-with_names (with_name names n) more m
    ∙ ap (λ b. b || has_name more m) (has_name-with_name names n m)
    ∙ or_middle (bytes_eq m n) (has_name names m) (has_name more m)

-- the order of names loses none and adds none
pub has_name-ascending : (names : List (List ℕ)) (m : List ℕ) → has_name (ascending names) m ≡ has_name names m
has_name-ascending names m = has_name-with_names [] names m

pub AreNew-append : (names xs ys : List (List ℕ)) → AreNew names xs → AreNew (with_names names xs) ys → AreNew names (xs ++ ys)
AreNew-append names [] ys first later = later
AreNew-append names (x ∷ xs) ys first later = (first.0, AreNew-append (with_name names x) xs ys first.1 later)

missing_before : (names more : List (List ℕ)) (k : ℕ) (n : List ℕ) → AreNew names more → slice_get more k ≡ Some n → has_name names n ≡ false
missing_before names [] k n new at = cc
missing_before names (x ∷ more) zero n new at = let same : x ≡ n = cc in rw (← same) new.0
missing_before names (x ∷ more) (suc k) n new at =
    right_of_false (bytes_eq n x) (has_name names n)
    (sym (has_name-with_name names x n) ∙ missing_before (with_name names x) more k n new.1 at)

-- no name comes twice
pub one_place : (names more : List (List ℕ)) (k l : ℕ) (n : List ℕ) → AreNew names more → slice_get more k ≡ Some n → slice_get more l ≡ Some n → k ≡ l
one_place names [] k l n new at_k at_l = cc
one_place names (x ∷ more) zero zero n new at_k at_l = refl
one_place names (x ∷ more) zero (suc l) n new at_k at_l =
    let same : x ≡ n = cc in
    let missing = missing_before (with_name names x) more l n new.1 at_l in
    let there : has_name (with_name names x) n ≡ true = rw (has_name-with_name names x n, same, name_is_itself n) refl in
    cc
one_place names (x ∷ more) (suc k) zero n new at_k at_l =
    let same : x ≡ n = cc in
    let missing = missing_before (with_name names x) more k n new.1 at_k in
    let there : has_name (with_name names x) n ≡ true = rw (has_name-with_name names x n, same, name_is_itself n) refl in
    cc
one_place names (x ∷ more) (suc k) (suc l) n new at_k at_l = ap suc (one_place (with_name names x) more k l n new.1 at_k at_l)
