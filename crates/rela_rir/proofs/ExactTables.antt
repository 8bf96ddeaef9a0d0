-- Tables of what is built are exact where those of the parts are.
use Rattle.std.proofs.Common.{◌≡◌, ◌∙◌, ℕ, ◌+◌, ◌<◌, List, length, refl, sym, ap, subst, arith}
use Rattle.std.specs.Prelude.{◌↔◌, Option, Some, slice_get}
use Rattle.std.specs.Option.{option_map}
use Rattle.std.proofs.lemmas.Option.{slice_get_within}
use Rattle.rela_rir.specs.Meaning.{IsPathWord}
use Rattle.rela_rir.specs.Places.{Place, Start, End, Begin, Left, Right, Inner, Both, Seen, Node, Places, Arrivals, Tells, EmptyPlaces, LetterPlaces, ComplementPlaces, PathSetPlaces}
use Rattle.rela_rir.specs.Tables.{IsTable, IsExact}
use Rattle.rela_rir.specs.Built.{OneState, LetterStates, SideBySide, StarStates, NumberedPairs, PathStates, ComplementStates}
use Rattle.rela_rir.proofs.FormTables.{mapped, beside, SideAt, inner, InnerAt, begun, BegunAt}
use Rattle.rela_rir.proofs.LeafTables.{given_if, from_given, below_or_not, path_or_not, only_start, start_and_end, path_table, seen_table}
use Rattle.rela_rir.proofs.JointTables.{joint, both, both_some, both_entries, JointPlaces, Together}
use Rattle.rela_rir.proofs.NumberedTables.{number, numbered_from, listed_number}

pub through : {I J : Type 0} {n : ℕ} {reach : ℕ → J → Type 0} {at : Place → J → Type 0} {table : Place → Option ℕ} (link : I → J → Type 0) →
    IsExact n reach at table → IsExact n (λ q i. (j : J) × link i j × reach q j) (λ p i. (j : J) × link i j × at p j) table
through link is = record {
  below = is.below;
  entered = λ p i has. is.entered p has.0 has.2;
  only = λ p q i entry has. (has.0, has.1, is.only p q has.0 entry has.2);
}

module _ {I : Type 0} {n k : ℕ} {a b r : ℕ → I → Type 0} {x y : Place → I → Type 0} {t u : Place → Option ℕ} (first : IsExact n a x t) (second : IsExact k b y u) (side : SideBySide n a b r) where
  side_below : (p : Place) (q : ℕ) → beside n t u p ≡ Some q → q < n + k
  side_below (Left p) q entry = (let below : q < n = first.below p q entry in omega arith)
  side_below (Right p) q entry =
      let from = mapped (λ j. n + j) (u p) q entry in
      let is : n + from.0 ≡ q = from.2 in
      let below : from.0 < k = second.below p from.0 from.1 in
      omega arith
  side_below _ q entry = absurd (let never : ⊥ = cc in never)

  side_entered : (p : Place) (i : I) → SideAt x y p i → (q : ℕ) × (beside n t u p ≡ Some q)
  side_entered (Left p) i at = first.entered p i at
  side_entered (Right p) i at = (let entry = second.entered p i at in (n + entry.0, ap (option_map (λ j. n + j)) entry.1))
  side_entered _ i at = absurd at

  side_only : (p : Place) (q : ℕ) (i : I) → beside n t u p ≡ Some q → r q i → SideAt x y p i
  side_only (Left p) q i entry has = first.only p q i entry ((side.first q i (first.below p q entry)).0 has)
  side_only (Right p) q i entry has =
      let from = mapped (λ j. n + j) (u p) q entry in
      second.only p from.0 i from.1 ((side.second from.0 i).0 (subst (λ j. r j i) (sym from.2) has))
  side_only _ q i entry has = absurd (let never : ⊥ = cc in never)

  pub side_by_side : IsExact (n + k) r (SideAt x y) (beside n t u)
  side_by_side = record { below = side_below; entered = side_entered; only = side_only }

module _ {I : Type 0} {n : ℕ} {a : ℕ → I → Type 0} {x : Place → I → Type 0} {t : Place → Option ℕ} (is : IsExact n a x t) where
  inner_below : (p : Place) (q : ℕ) → inner t p ≡ Some q → q < n
  inner_below (Inner p) q entry = is.below p q entry
  inner_below _ q entry = absurd (let never : ⊥ = cc in never)

  inner_entered : (p : Place) (i : I) → InnerAt x p i → (q : ℕ) × (inner t p ≡ Some q)
  inner_entered (Inner p) i at = is.entered p i at
  inner_entered _ i at = absurd at

  inner_only : (p : Place) (q : ℕ) (i : I) → inner t p ≡ Some q → a q i → InnerAt x p i
  inner_only (Inner p) q i entry has = is.only p q i entry has
  inner_only _ q i entry has = absurd (let never : ⊥ = cc in never)

  pub within : IsExact n a (InnerAt x) (inner t)
  within = record { below = inner_below; entered = inner_entered; only = inner_only }

  module _ {start : I → Type 0} {r : ℕ → I → Type 0} (states : StarStates start a r) where
    begun_below : (p : Place) (q : ℕ) → begun t p ≡ Some q → q < 1 + n
    begun_below Begin q entry = (let zeros : 0 ≡ q = cc in omega arith)
    begun_below p q entry =
        let from = mapped (λ j. 1 + j) (t p) q entry in
        let same : 1 + from.0 ≡ q = from.2 in
        let below : from.0 < n = is.below p from.0 from.1 in
        omega arith

    begun_entered : (p : Place) (i : I) → BegunAt start x p i → (q : ℕ) × (begun t p ≡ Some q)
    begun_entered Begin i at = (0, refl)
    begun_entered p i at = (let entry = is.entered p i at in (1 + entry.0, ap (option_map (λ j. 1 + j)) entry.1))

    begun_only : (p : Place) (q : ℕ) (i : I) → begun t p ≡ Some q → r q i → BegunAt start x p i
    begun_only Begin q i entry has = (states.begin i).0 (subst (λ j. r j i) (let zeros : q ≡ 0 = cc in zeros) has)
    begun_only p q i entry has =
        let from = mapped (λ j. 1 + j) (t p) q entry in
        is.only p from.0 i from.1 ((states.copies from.0 i).0 (subst (λ j. r j i) (sym from.2) has))

    pub with_start : IsExact (1 + n) r (BegunAt start x) (begun t)
    with_start = record { below = begun_below; entered = begun_entered; only = begun_only }

pub one_state : (r : ℕ → List ℕ → Type 0) → OneState r → IsExact 1 r EmptyPlaces only_start
one_state r states = record { below = below; entered = entered; only = only } where
  below : (p : Place) (q : ℕ) → only_start p ≡ Some q → q < 1
  below Start q entry = (let zeros : 0 ≡ q = cc in omega arith)
  below _ q entry = absurd (let never : ⊥ = cc in never)

  entered : (p : Place) (w : List ℕ) → EmptyPlaces p w → (q : ℕ) × (only_start p ≡ Some q)
  entered Start w at = (0, refl)
  entered _ w at = absurd at

  only : (p : Place) (q : ℕ) (w : List ℕ) → only_start p ≡ Some q → r q w → EmptyPlaces p w
  only Start q w entry has = (states.begin w).0 (subst (λ j. r j w) (let zeros : q ≡ 0 = cc in zeros) has)
  only _ q w entry has = absurd (let never : ⊥ = cc in never)

pub letter_states : (member : ℕ → Type 0) (r : ℕ → List ℕ → Type 0) → LetterStates member r → IsExact 2 r (LetterPlaces member) start_and_end
letter_states member r states = record { below = below; entered = entered; only = only } where
  below : (p : Place) (q : ℕ) → start_and_end p ≡ Some q → q < 2
  below Start q entry = (let zeros : 0 ≡ q = cc in omega arith)
  below End q entry = (let ones : 1 ≡ q = cc in omega arith)
  below _ q entry = absurd (let never : ⊥ = cc in never)

  entered : (p : Place) (w : List ℕ) → LetterPlaces member p w → (q : ℕ) × (start_and_end p ≡ Some q)
  entered Start w at = (0, refl)
  entered End w at = (1, refl)
  entered _ w at = absurd at

  only : (p : Place) (q : ℕ) (w : List ℕ) → start_and_end p ≡ Some q → r q w → LetterPlaces member p w
  only Start q w entry has = (states.begin w).0 (subst (λ j. r j w) (let zeros : q ≡ 0 = cc in zeros) has)
  only End q w entry has = (states.end w).0 (subst (λ j. r j w) (let ones : q ≡ 1 = cc in ones) has)
  only _ q w entry has = absurd (let never : ⊥ = cc in never)

-- a table of paths is exact where the nodes that are reached are the n nodes
pub path_states : (n : ℕ) (arrivals : Arrivals) (r : ℕ → List ℕ → Type 0) → PathStates n arrivals r → ((k : ℕ) (w : List ℕ) → arrivals.at_node k w → k < n) →
    IsExact (2 + n) r (PathSetPlaces arrivals) (path_table n)
path_states n arrivals r states nodes = record { below = below; entered = entered; only = only } where
  below : (p : Place) (q : ℕ) → path_table n p ≡ Some q → q < 2 + n
  below Begin q entry = (let zeros : 0 ≡ q = cc in omega arith)
  below (Node k) q entry =
      let from = from_given (below_or_not k n) (1 + k) q entry in
      let less : k < n = from.0 in
      let is : 1 + k ≡ q = from.1 in
      omega arith
  below End q entry = (let ends : 1 + n ≡ q = cc in omega arith)
  below _ q entry = absurd (let never : ⊥ = cc in never)

  entered : (p : Place) (w : List ℕ) → PathSetPlaces arrivals p w → (q : ℕ) × (path_table n p ≡ Some q)
  entered Begin w at = (0, refl)
  entered (Node k) w at = (1 + k, given_if (below_or_not k n) (1 + k) (nodes k w at))
  entered End w at = (1 + n, refl)
  entered _ w at = absurd at

  only : (p : Place) (q : ℕ) (w : List ℕ) → path_table n p ≡ Some q → r q w → PathSetPlaces arrivals p w
  only Begin q w entry has = (states.begin w).0 (subst (λ j. r j w) (let zeros : q ≡ 0 = cc in zeros) has)
  only (Node k) q w entry has =
      let from = from_given (below_or_not k n) (1 + k) q entry in
      (states.nodes k w from.0).0 (subst (λ j. r j w) (sym from.1) has)
  only End q w entry has = (states.end w).0 (subst (λ j. r j w) (let ends : q ≡ 1 + n = cc in ends) has)
  only _ q w entry has = absurd (let never : ⊥ = cc in never)

-- words that reach the same states reach the same places, where the table is exact
pub agree_places : {I : Type 0} {n : ℕ} {a : ℕ → I → Type 0} {x : Place → I → Type 0} {tx : Tells} {t : Place → Option ℕ} → IsTable a x tx t → IsExact n a x t →
    (v w : I) → ((q : ℕ) → a q v → a q w) → (p : Place) → x p v → x p w
agree_places is exact v w same p at =
    let entry = exact.entered p v at in
    exact.only p entry.0 w entry.1 (same entry.0 ((is.reached entry.0 v).1 (record { place = p; entry = entry.1; reached = at })))

pub complement_states : {x : Places} {tx : Tells} {t : Place → Option ℕ} (n k count : ℕ) (a r : ℕ → List ℕ → Type 0) → IsTable a x tx t → IsExact k a x t → (states : ComplementStates n a r) →
    ((v : List ℕ) → IsPathWord n v → states.after v < count) →
    ((v w : List ℕ) → IsPathWord n v → IsPathWord n w → states.after v ≡ states.after w → (q : ℕ) → a q v ↔ a q w) →
    IsExact count r (ComplementPlaces n x) (seen_table n states.after)
complement_states {x} {tx} {t} n k count a r is exact states few tells_all = record { below = below; entered = entered; only = only } where
  below : (p : Place) (q : ℕ) → seen_table n states.after p ≡ Some q → q < count
  below (Seen z) q entry =
      let from = from_given (path_or_not n z) (states.after z) q entry in
      let less : states.after z < count = few z from.0 in
      let is : states.after z ≡ q = from.1 in
      omega arith
  below _ q entry = absurd (let never : ⊥ = cc in never)

  entered : (p : Place) (w : List ℕ) → ComplementPlaces n x p w → (q : ℕ) × (seen_table n states.after p ≡ Some q)
  entered (Seen z) w at = (states.after z, given_if (path_or_not n z) (states.after z) at.0)
  entered _ w at = absurd at

  only : (p : Place) (q : ℕ) (w : List ℕ) → seen_table n states.after p ≡ Some q → r q w → ComplementPlaces n x p w
  only (Seen z) q w entry has =
      let from = from_given (path_or_not n z) (states.after z) q entry in
      let leads = (states.reached q w).0 has in
      let alike = tells_all w z leads.0 from.0 (leads.1 ∙ sym from.1) in
      (from.0, leads.0, λ p. (agree_places is exact w z (λ j. (alike j).0) p, agree_places is exact z w (λ j. (alike j).1) p))
  only _ q w entry has = absurd (let never : ⊥ = cc in never)

-- the table of numbered pairs, where those of both parts are exact
module _ {I J K : Type 0} {n k : ℕ} {a : ℕ → I → Type 0} {x : Place → I → Type 0} {tx : Tells} {t : Place → Option ℕ} {b : ℕ → J → Type 0} {y : Place → J → Type 0} {ty : Tells} {u : Place → Option ℕ}
    (first : IsTable a x tx t) (second : IsTable b y ty u) (exact : IsExact n a x t) (other : IsExact k b y u) (link : K → I → J → Type 0) (pairs : List (ℕ × ℕ)) (r : ℕ → K → Type 0)
    (states : NumberedPairs pairs (Together first second link) r) where
  abbrev table : Place → Option ℕ
  table p = number pairs (joint t u p)

  pair_below : (p : Place) (q : ℕ) → table p ≡ Some q → q < length pairs
  pair_below p q entry = (let from = numbered_from pairs (joint t u p) q entry in slice_get_within pairs q from.0 from.2)

  pair_entered : (p : Place) (i : K) → JointPlaces first second link p i → (q : ℕ) × (table p ≡ Some q)
  pair_entered (Both p s) i at =
      let one = exact.entered p at.left at.in_left in
      let two = other.entered s at.right at.in_right in
      let has : Together first second link (one.0, two.0) i = record {
        left = at.left;
        right = at.right;
        linked = at.linked;
        in_left = (first.reached one.0 at.left).1 (record { place = p; entry = one.1; reached = at.in_left });
        in_right = (second.reached two.0 at.right).1 (record { place = s; entry = two.1; reached = at.in_right });
      } in
      listed_number pairs (both (t p) (u s)) (one.0, two.0) (both_some (t p) (u s) one.0 two.0 one.1 two.1) (states.all (one.0, two.0) i has)
  pair_entered _ i at = absurd at

  pair_only : (p : Place) (q : ℕ) (i : K) → table p ≡ Some q → r q i → JointPlaces first second link p i
  pair_only (Both p s) q i entry has =
      let from = numbered_from pairs (both (t p) (u s)) q entry in
      let entries = both_entries (t p) (u s) from.0 from.1 in
      let reached = (states.numbered q i).0 has in
      let same : reached.0 ≡ from.0 = (let gets : slice_get pairs q ≡ Some reached.0 = reached.1 in let also : slice_get pairs q ≡ Some from.0 = from.2 in cc) in
      let together : Together first second link from.0 i = subst (λ (z : ℕ × ℕ). Together first second link z i) same reached.2 in
      record {
        left = together.left;
        right = together.right;
        linked = together.linked;
        in_left = exact.only p from.0.0 together.left entries.0 together.in_left;
        in_right = other.only s from.0.1 together.right entries.1 together.in_right;
      }
  pair_only _ q i entry has = absurd (let never : ⊥ = cc in never)

  pub pairs_exact : IsExact (length pairs) r (JointPlaces first second link) table
  pairs_exact = record { below = pair_below; entered = pair_entered; only = pair_only }
