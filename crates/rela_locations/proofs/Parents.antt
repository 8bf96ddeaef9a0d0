-- A table of parents: for each child's number its parent's.
use Rattle.std.proofs.Common.{zero, suc, ◌≡◌, ℕ, ◌<◌, true, ◌==◌, List, [], ◌∷◌, length, get_or, Some, slice_get, map, option_map, replicate, refl, ap, sym, ◌∙◌, arith}
use Rattle.std.specs.Prelude.{slice_index}
use Rattle.std.specs.List.{list_any}
use Rattle.std.specs.Str.{bytes_eq}
use Rattle.std.proofs.lemmas.Bool.{eq-eqb}
use Rattle.std.proofs.lemmas.List.{length-replicate}
use Rattle.std.proofs.lemmas.Option.{slice_get-map, slice_get_within, slice_get-get_or}
use Rattle.rela_locations.specs.Names.{has_name}
use Rattle.rela_locations.specs.Tables.{index_of, IsOnce, with_entries}
use Rattle.rela_locations.proofs.Bools.{place_of_any, any_of_place, true_left, true_right, both_true, same_test}
use Rattle.rela_locations.proofs.NameSets.{same_name, name_is_itself}
use Rattle.rela_locations.proofs.Indexes.{index_of_known, index_of_place}
use Rattle.rela_locations.proofs.PairLaws.{is_pair, child_of}
use Rattle.rela_locations.proofs.Writes.{written}

-- pairs of a child's name and its parent's
abbrev pub Pair : Type 0
Pair = List ℕ × List ℕ

abbrev pub name_at : List (List ℕ) → ℕ → List ℕ
name_at names k = get_or names k []

-- a pair's numbers
abbrev pub numbered : List (List ℕ) → List (List ℕ) → Pair → ℕ × ℕ
numbered children parents pair = (index_of children pair.0, index_of parents pair.1)

abbrev pub parent_table : List (List ℕ) → List (List ℕ) → List Pair → List ℕ
parent_table children parents pairs = with_entries (replicate (length children) 0) (map (numbered children parents) pairs)

pub record ArePairs (children parents : List (List ℕ)) (pairs : List Pair) : Type 0 where
  pub children_once : IsOnce children
  pub parents_once : IsOnce parents
  pub known_children : (p : Pair) (k : ℕ) → slice_get pairs k ≡ Some p → has_name children p.0 ≡ true
  pub known_parents : (p : Pair) (k : ℕ) → slice_get pairs k ≡ Some p → has_name parents p.1 ≡ true
  pub once : IsOnce (map child_of pairs)
  pub complete : (n : List ℕ) → has_name children n ≡ true → has_name (map child_of pairs) n ≡ true

-- the pair of a child
pub record PairAt (children : List (List ℕ)) (pairs : List Pair) (s : ℕ) : Type 0 where
  pub pair : Pair
  pub place : ℕ
  pub at : slice_get pairs place ≡ Some pair
  pub child_is : pair.0 ≡ name_at children s
  pub number_is : index_of children pair.0 ≡ s

child_at : (pairs : List Pair) (k : ℕ) (n : List ℕ) → slice_get (map child_of pairs) k ≡ Some n → (p : Pair) × (slice_get pairs k ≡ Some p) × (p.0 ≡ n)
child_at [] k n e = cc
child_at (p ∷ pairs) zero n e = (p, refl, cc)
child_at (p ∷ pairs) (suc k) n e = child_at pairs k n e

pub pair_at : (children parents : List (List ℕ)) (pairs : List Pair) (s : ℕ) → ArePairs children parents pairs → s < length children → PairAt children pairs s
pair_at children parents pairs s are within =
    let at_s : slice_get children s ≡ Some (name_at children s) = slice_get-get_or children s [] within in
    let known : has_name children (name_at children s) ≡ true = any_of_place (bytes_eq (name_at children s)) children s (name_at children s) at_s (name_is_itself (name_at children s)) in
    let found = place_of_any (bytes_eq (name_at children s)) (map child_of pairs) (are.complete (name_at children s) known) in
    let same : name_at children s ≡ found.1 = same_name (name_at children s) found.1 found.3 in
    let pair = child_at pairs found.0 found.1 found.2 in
    let child_is : pair.0.0 ≡ name_at children s = pair.2 ∙ sym same in
    record { pair = pair.0; place = found.0; at = pair.1; child_is = child_is; number_is = ap (index_of children) child_is ∙ index_of_place children (name_at children s) s are.children_once at_s }

pub equal_numbers : (a b : ℕ) → (a == b) ≡ true → a ≡ b
equal_numbers a b e = grind arith

some_is : {A : Type 0} (x y : A) → Some x ≡ Some y → x ≡ y
some_is x y e = cc

-- one pair alone has a child's number
numbered_once : (children parents : List (List ℕ)) (pairs : List Pair) → ArePairs children parents pairs → (p : Pair) (k l : ℕ) (x : ℕ × ℕ)
    → slice_get pairs k ≡ Some p → slice_get (map (numbered children parents) pairs) l ≡ Some x → x.0 ≡ index_of children p.0 → l ≡ k
numbered_once children parents pairs are p k l x at_k at_l same =
    let other = numbered_at pairs l x at_l in
    let p_at = index_of_known children p.0 (are.known_children p k at_k) in
    let q_at = index_of_known children other.0.0 (are.known_children other.0 l other.1) in
    let indexes : index_of children other.0.0 ≡ index_of children p.0 = sym (ap (λ (w : ℕ × ℕ). w.0) other.2) ∙ same in
    let names : other.0.0 ≡ p.0 = some_is other.0.0 p.0 (sym q_at ∙ ap (slice_get children) indexes ∙ p_at) in
    are.once l k p.0 (slice_get-map child_of pairs l ∙ ap (option_map child_of) other.1 ∙ ap Some names) (slice_get-map child_of pairs k ∙ ap (option_map child_of) at_k)
  where
    numbered_at : (pairs : List Pair) (l : ℕ) (x : ℕ × ℕ) → slice_get (map (numbered children parents) pairs) l ≡ Some x → (q : Pair) × (slice_get pairs l ≡ Some q) × (x ≡ numbered children parents q)
    numbered_at [] l x e = cc
    numbered_at (q ∷ pairs) zero x e = (q, refl, cc)
    numbered_at (q ∷ pairs) (suc l) x e = numbered_at pairs l x e

-- the table has the parent's number
pub parent_in_table : (children parents : List (List ℕ)) (pairs : List Pair) (s : ℕ) (are : ArePairs children parents pairs) (within : s < length children)
    → slice_index (parent_table children parents pairs) s ≡ index_of parents (pair_at children parents pairs s are within).pair.1
parent_in_table children parents pairs s are within =
    let here = pair_at children parents pairs s are within in
    let at : slice_get (map (numbered children parents) pairs) here.place ≡ Some (numbered children parents here.pair) = slice_get-map (numbered children parents) pairs here.place ∙ ap (option_map (numbered children parents)) here.at in
    let small : index_of children here.pair.0 < length (replicate (length children) 0) = rw (here.number_is, length-replicate) within in
    ap (slice_index (parent_table children parents pairs)) (sym here.number_is)
    ∙ written (replicate (length children) 0) (map (numbered children parents) pairs) here.place (numbered children parents here.pair) at small
    (λ l x at_l same. numbered_once children parents pairs are here.pair here.place l x here.at at_l same)

pair_tells_index : (children parents : List (List ℕ)) (pairs : List Pair) (s d : ℕ) → ArePairs children parents pairs → (here : PairAt children pairs s)
    → slice_get parents d ≡ Some (name_at parents d) → list_any (is_pair (name_at children s) (name_at parents d)) pairs ≡ true
    → index_of parents here.pair.1 ≡ d
pair_tells_index children parents pairs s d are here d_at any =
    let found = place_of_any (is_pair (name_at children s) (name_at parents d)) pairs any in
    let child : name_at children s ≡ found.1.0 = same_name _ _ (true_left _ _ found.3) in
    let parent : name_at parents d ≡ found.1.1 = same_name _ _ (true_right _ _ found.3) in
    let firsts : slice_get (map child_of pairs) found.0 ≡ Some here.pair.0 =
    slice_get-map child_of pairs found.0 ∙ ap (option_map child_of) found.2 ∙ ap Some (sym child ∙ sym here.child_is) in
    let place : found.0 ≡ here.place = are.once found.0 here.place here.pair.0 firsts (slice_get-map child_of pairs here.place ∙ ap (option_map child_of) here.at) in
    let same : found.1 ≡ here.pair = some_is found.1 here.pair (sym found.2 ∙ ap (slice_get pairs) place ∙ here.at) in
    ap (index_of parents) (sym (ap (λ (p : Pair). p.1) same) ∙ sym parent) ∙ index_of_place parents (name_at parents d) d are.parents_once d_at

index_tells_pair : (children parents : List (List ℕ)) (pairs : List Pair) (s d : ℕ) → ArePairs children parents pairs → (here : PairAt children pairs s)
    → slice_get parents d ≡ Some (name_at parents d) → index_of parents here.pair.1 ≡ d
    → list_any (is_pair (name_at children s) (name_at parents d)) pairs ≡ true
index_tells_pair children parents pairs s d are here d_at tells =
    let stands = index_of_known parents here.pair.1 (are.known_parents here.pair here.place here.at) in
    let parent : here.pair.1 ≡ name_at parents d = some_is here.pair.1 (name_at parents d) (sym stands ∙ ap (slice_get parents) tells ∙ d_at) in
    let is : is_pair (name_at children s) (name_at parents d) here.pair ≡ true =
    both_true (bytes_eq (name_at children s) here.pair.0) (bytes_eq (name_at parents d) here.pair.1) (rw here.child_is (name_is_itself (name_at children s))) (rw parent (name_is_itself (name_at parents d))) in
    any_of_place (is_pair (name_at children s) (name_at parents d)) pairs here.place here.pair here.at is

-- a child and a parent are a pair exactly where the table says so
pub table_tells_pairs : (children parents : List (List ℕ)) (pairs : List Pair) (s d : ℕ) → ArePairs children parents pairs → s < length children → d < length parents
    → list_any (is_pair (name_at children s) (name_at parents d)) pairs ≡ (slice_index (parent_table children parents pairs) s == d)
table_tells_pairs children parents pairs s d are within below =
    let here = pair_at children parents pairs s are within in
    let in_table = parent_in_table children parents pairs s are within in
    let d_at : slice_get parents d ≡ Some (name_at parents d) = slice_get-get_or parents d [] below in
    same_test _ _
    (λ any. eq-eqb _ _ (in_table ∙ pair_tells_index children parents pairs s d are here d_at any))
    (λ tells. index_tells_pair children parents pairs s d are here d_at (sym in_table ∙ equal_numbers _ d tells))

-- each entry is a parent's number
pub table_in_range : (children parents : List (List ℕ)) (pairs : List Pair) (s : ℕ) → ArePairs children parents pairs → s < length children
    → slice_index (parent_table children parents pairs) s < length parents
table_in_range children parents pairs s are within =
    let here = pair_at children parents pairs s are within in
    rw (parent_in_table children parents pairs s are within)
    (slice_get_within parents (index_of parents here.pair.1) here.pair.1 (index_of_known parents here.pair.1 (are.known_parents here.pair here.place here.at)))
