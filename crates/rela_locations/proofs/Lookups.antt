-- What is looked up in a table of parents.
use Rattle.std.proofs.Common.{zero, suc, ◌≡◌, ℕ, ◌+◌, ◌<◌, ◌≤◌, Bool, true, false, ◌||◌, ◌==◌, List, [], ◌∷◌, length, get_or, slice_get, map, option_map, filter, replicate, refl, ap, sym, ◌∙◌, arith}
use Rattle.std.specs.Prelude.{slice_index}
use Rattle.std.specs.List.{list_any, position_or_len, range_with_len, All}
use Rattle.std.specs.Str.{bytes_eq}
use Rattle.std.proofs.lemmas.Bool.{eq-eqb, false_from_ne_true}
use Rattle.std.proofs.lemmas.List.{length-replicate, length-map}
use Rattle.std.proofs.lemmas.List.Folds.{list_any-append}
use Rattle.std.proofs.lemmas.List.FromFn.{fill_by_all}
use Rattle.std.proofs.lemmas.List.Sums.{position_or_len_is}
use Rattle.std.proofs.lemmas.Option.{slice_get-map, slice_get-get_or, get_or_from_slice_get}
use Rattle.rela_locations.specs.Names.{ascending, has_name}
use Rattle.rela_locations.specs.Tables.{places_of, AreNew, IsOnce}
use Rattle.rela_locations.proofs.Bools.{any_of_place, or_true}
use Rattle.rela_locations.proofs.NameSets.{one_place, name_is_itself, has_name-ascending}
use Rattle.rela_locations.proofs.Indexes.{known_at}
use Rattle.rela_locations.proofs.PairLaws.{is_pair, child_of, pairs_of, children_of, firsts_are_children}
use Rattle.rela_locations.proofs.Parents.{Pair, ArePairs, name_at, numbered, parent_table, table_tells_pairs, table_in_range, equal_numbers}
use Rattle.rela_locations.proofs.Places.{field_at}
use Rattle.rela_locations.proofs.Writes.{length-with_entries}

parent_under : (cs : List (List ℕ)) (key n : List ℕ) → list_any (λ (p : Pair). bytes_eq n p.1) (map (λ c. (c, key)) cs) ≡ true → bytes_eq n key ≡ true
parent_under [] key n e = cc
parent_under (c ∷ cs) key n e = by_test (bytes_eq n key) refl e (parent_under cs key n)
  where
    by_test : (b : Bool) → bytes_eq n key ≡ b → (b || list_any (λ (p : Pair). bytes_eq n p.1) (map (λ c. (c, key)) cs)) ≡ true
        → (list_any (λ (p : Pair). bytes_eq n p.1) (map (λ c. (c, key)) cs) ≡ true → bytes_eq n key ≡ true) → bytes_eq n key ≡ true
    by_test true is e later = is
    by_test false is e later = later e

module _ {X : Type 0} (key : X → List ℕ) (inside : X → List (List ℕ)) where
  parents_are_keys : (xs : List X) (n : List ℕ) → list_any (λ (p : Pair). bytes_eq n p.1) (pairs_of key inside xs) ≡ true → has_name (map key xs) n ≡ true
  parents_are_keys [] n e = cc
  parents_are_keys (x ∷ xs) n e =
      by_test (list_any (λ (p : Pair). bytes_eq n p.1) (map (λ c. (c, key x)) (inside x))) refl
      (sym (list_any-append (λ (p : Pair). bytes_eq n p.1) (map (λ c. (c, key x)) (inside x)) (pairs_of key inside xs)) ∙ e)
      (parents_are_keys xs n)
    where
      by_test : (b : Bool) → list_any (λ (p : Pair). bytes_eq n p.1) (map (λ c. (c, key x)) (inside x)) ≡ b
          → (b || list_any (λ (p : Pair). bytes_eq n p.1) (pairs_of key inside xs)) ≡ true
          → (list_any (λ (p : Pair). bytes_eq n p.1) (pairs_of key inside xs) ≡ true → has_name (map key xs) n ≡ true)
          → (bytes_eq n (key x) || has_name (map key xs) n) ≡ true
      by_test true is e later = ap (λ b. b || has_name (map key xs) n) (parent_under (inside x) (key x) n is)
      by_test false is e later = ap (λ b. bytes_eq n (key x) || b) (later e) ∙ or_true (bytes_eq n (key x))

  -- pairs of names that come once, with the alphabets of the two levels
  pub pairs_are : (xs : List X) (children parents names : List (List ℕ)) → children_of key inside xs ≡ names → children ≡ ascending names → parents ≡ ascending (map key xs)
      → IsOnce children → IsOnce parents → AreNew [] names → ArePairs children parents (pairs_of key inside xs)
  pairs_are xs children parents names names_are children_are parents_are children_once parents_once new = record {
    children_once = children_once;
    parents_once = parents_once;
    known_children = λ p k at.
        ap (λ ns. has_name ns p.0) children_are ∙ has_name-ascending names p.0
        ∙ known_at names p.0 k (ap (λ ns. slice_get ns k) (sym firsts) ∙ slice_get-map child_of (pairs_of key inside xs) k ∙ ap (option_map child_of) at);
    known_parents = λ p k at.
        ap (λ ns. has_name ns p.1) parents_are ∙ has_name-ascending (map key xs) p.1
        ∙ parents_are_keys xs p.1 (any_of_place (λ (q : Pair). bytes_eq p.1 q.1) (pairs_of key inside xs) k p at (name_is_itself p.1));
    once = λ k l n at_k at_l. one_place [] names k l n new (ap (λ ns. slice_get ns k) (sym firsts) ∙ at_k) (ap (λ ns. slice_get ns l) (sym firsts) ∙ at_l);
    complete = λ n known. ap (λ ns. has_name ns n) firsts ∙ sym (has_name-ascending names n) ∙ ap (λ ns. has_name ns n) (sym children_are) ∙ known;
  }
    where
      firsts : map child_of (pairs_of key inside xs) ≡ names
      firsts = firsts_are_children key inside xs ∙ names_are

-- a test that one place alone passes
pub place_told : (p : List ℕ → Bool) (names : List (List ℕ)) (t : ℕ) → t < length names → ((k : ℕ) → k < length names → p (name_at names k) ≡ (t == k)) → position_or_len p names ≡ t
place_told p names t within tells =
    position_or_len_is p names t [] (omega arith)
    (λ k below. tells k (omega arith) ∙ apart t k below)
    (λ here. tells t here ∙ eq-eqb t t refl)
  where
    apart : (t k : ℕ) → k < t → (t == k) ≡ false
    apart t k below = false_from_ne_true (t == k) (λ same. let e = equal_numbers t k same in omega arith)

-- two tests that agree below n keep the same numbers below n
same_kept : (p q : ℕ → Bool) (a n : ℕ) → ((s : ℕ) → a ≤ s → s < a + n → p s ≡ q s) → filter p (range_with_len a n) ≡ filter q (range_with_len a n)
same_kept p q a zero same = refl
same_kept p q a (suc n) same =
    let later : filter p (range_with_len (a + 1) n) ≡ filter q (range_with_len (a + 1) n) = same_kept p q (a + 1) n (λ s low high. same s (omega arith) (omega arith)) in
    rw (same a (omega arith) (omega arith), later) refl

pub same_below : (p q : ℕ → Bool) (n : ℕ) → ((s : ℕ) → s < n → p s ≡ q s) → filter p (range_with_len 0 n) ≡ filter q (range_with_len 0 n)
same_below p q n same = same_kept p q 0 n (λ s low high. same s (omega arith))

pub length-parent_table : (children parents : List (List ℕ)) (pairs : List Pair) → length (parent_table children parents pairs) ≡ length children
length-parent_table children parents pairs =
    length-with_entries (replicate (length children) 0) (map (numbered children parents) pairs) ∙ length-replicate (length children) 0

default_is_not_read : (xs : List ℕ) (k d e : ℕ) → k < length xs → get_or xs k d ≡ get_or xs k e
default_is_not_read xs k d e within = get_or_from_slice_get xs k (get_or xs k e) d (slice_get-get_or xs k e within)

-- each entry of the table is a parent's number
pub parents_in_range : (children parents : List (List ℕ)) (pairs : List Pair) → ArePairs children parents pairs → All (λ entry. entry < length parents) (parent_table children parents pairs)
parents_in_range children parents pairs are s d within =
    let inside : s < length children = rw (length-parent_table children parents pairs) at within in
    rw (default_is_not_read (parent_table children parents pairs) s d 0 within) (table_in_range children parents pairs s are inside)

module _ (children parents : List (List ℕ)) (pairs : List Pair) (are : ArePairs children parents pairs) (lies : List ℕ → List ℕ → Bool)
    (lies_by_pair : (child parent : List ℕ) → lies child parent ≡ list_any (is_pair child parent) pairs) where
  tells : (s d : ℕ) → s < length children → d < length parents → lies (name_at children s) (name_at parents d) ≡ (slice_index (parent_table children parents pairs) s == d)
  tells s d within below = lies_by_pair (name_at children s) (name_at parents d) ∙ table_tells_pairs children parents pairs s d are within below

  -- the table has the first parent under which a child lies
  pub parent_found : (s : ℕ) → s < length children → position_or_len (lies (name_at children s)) parents ≡ slice_index (parent_table children parents pairs) s
  parent_found s within =
      place_told (lies (name_at children s)) parents (slice_index (parent_table children parents pairs) s) (table_in_range children parents pairs s are within)
      (λ k below. tells s k within below)

  pub parents_found : (f : ℕ → ℕ) → ((s : ℕ) → f s ≡ position_or_len (lies (name_at children s)) parents) → parent_table children parents pairs ≡ map f (range_with_len 0 (length children))
  parents_found f is =
      fill_by_all f (parent_table children parents pairs) (length children) 0 (length-parent_table children parents pairs)
      (λ s within. sym (is s ∙ parent_found s within))

  pub parent_told : (s d : ℕ) → s < length children → d < length parents → lies (name_at children s) (name_at parents d) ≡ (position_or_len (lies (name_at children s)) parents == d)
  parent_told s d within below = tells s d within below ∙ ap (λ t. t == d) (sym (parent_found s within))

  pub parent_known : (s : ℕ) → s < length children → position_or_len (lies (name_at children s)) parents < length parents
  parent_known s within = rw (parent_found s within) (table_in_range children parents pairs s are within)

  -- the places of a parent are the children that lie under it
  pub children_found : (d : ℕ) → d < length parents
      → places_of (parent_table children parents pairs) d ≡ filter (λ s. lies (name_at children s) (name_at parents d)) (range_with_len 0 (length children))
  children_found d below =
      ap (λ n. filter (λ s. slice_index (parent_table children parents pairs) s == d) (range_with_len 0 n)) (length-parent_table children parents pairs)
      ∙ sym (same_below _ _ (length children) (λ s within. tells s d within below))

  pub all_children_found : (g : List ℕ → List ℕ) → ((n : List ℕ) → g n ≡ filter (λ s. lies (name_at children s) n) (range_with_len 0 (length children)))
      → map (places_of (parent_table children parents pairs)) (range_with_len 0 (length parents)) ≡ map g parents
  all_children_found g is =
      sym (fill_by_all (places_of (parent_table children parents pairs)) (map g parents) (length parents) [] (length-map parents g)
      (λ d below. sym (field_at g parents d (name_at parents d) below (sym (get_or_from_slice_get parents d (name_at parents d) (name_at parents d) (slice_get-get_or parents d [] below)))) ∙ is (name_at parents d) ∙ sym (children_found d below)))
