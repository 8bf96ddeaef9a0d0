-- The numbers of a layered graph are places of its nodes, and it has few edges.
use Rattle.std.proofs.Common.{◌≡◌, ℕ, zero, suc, ◌+◌, ◌-◌, ◌*◌, ◌<◌, ◌≤◌, ◌==◌, Bool, true, false, cond, not, List, [], ◌∷◌, length, get_or, arith}
use Rattle.std.specs.List.{All, filter, flat_map, range_with_len}
use Rattle.std.proofs.Math.Nat.{mul-suc}
use Rattle.std.proofs.lemmas.List.{length-append}
use Rattle.std.proofs.lemmas.List.Elements.{All-nil, All-cons, All-append, All-filter, All-head, All-tail}
use Rattle.rela_graph.specs.declared.node.Link.{Link}
use Rattle.rela_demo.specs.Layers.{Graph, a_place, b_place, cut, cut_off, edges_from, edges_into, edges_of, layer, layered, lost}
use Rattle.rela_demo.specs.Names.{labels_from}

abbrev pub AreBelow : ℕ → List ℕ → Type 0
AreBelow count ns = All (λ (n : ℕ). n < count) ns

abbrev pub Joins : ℕ → Link → Type 0
Joins count edge = (edge.a < count) × (edge.b < count)

-- all edges and lists name places below a number
pub record IsBelow (count : ℕ) (graph : Graph) : Type 0 where
  pub edges : All (Joins count) graph.edges
  pub delivered : AreBelow count graph.delivered
  pub dropped : AreBelow count graph.dropped

-- few edges, and few places in its lists
pub record IsSmall (graph : Graph) : Type 0 where
  pub edges : length graph.edges ≤ 800
  pub delivered : length graph.delivered ≤ 2
  pub dropped : length graph.dropped ≤ 2

-- ---- lists

pub range_all : (P : ℕ → Type 0) (a n : ℕ) → ((k : ℕ) → a ≤ k → k < a + n → P k) → All P (range_with_len a n)
range_all P a zero h = All-nil P
range_all P a (suc n) h = All-cons P a (range_with_len (a + 1) n) (h a (omega arith) (omega arith)) (range_all P (a + 1) n (λ k from to. h k (omega (arith, from)) (omega (arith, to))))

flat_all : {A B : Type 0} (P : A → Type 0) (Q : B → Type 0) (f : A → List B) → ((x : A) → P x → All Q (f x)) → (xs : List A) → All P xs → All Q (flat_map f xs)
flat_all P Q f each [] h = All-nil Q
flat_all P Q f each (x ∷ xs) h = All-append Q (f x) (flat_map f xs) (each x (All-head P x xs h)) (flat_all P Q f each xs (All-tail P x xs h))

pub flat_length : {A B : Type 0} (c : ℕ) (f : A → List B) (xs : List A) → All (λ x. length (f x) ≤ c) xs → length (flat_map f xs) ≤ c * length xs
flat_length c f [] h = omega arith
flat_length c f (x ∷ xs) h =
    let one : length (f x) ≤ c = All-head (λ x. length (f x) ≤ c) x xs h in
    let rest : length (flat_map f xs) ≤ c * length xs = flat_length c f xs (All-tail (λ x. length (f x) ≤ c) x xs h) in
    omega (arith, one, rest, length-append (f x) (flat_map f xs), mul-suc c (length xs))

kept_length : {A : Type 0} (b : Bool) (x : A) (xs : List A) (n : ℕ) → length xs ≤ n → length (cond b (x ∷ xs) xs) ≤ suc n
kept_length true x xs n le = omega (arith, le)
kept_length false x xs n le = omega (arith, le)

filter_length : {A : Type 0} (p : A → Bool) (xs : List A) → length (filter p xs) ≤ length xs
filter_length p [] = omega arith
filter_length p (x ∷ xs) = kept_length (p x) x (filter p xs) (length xs) (filter_length p xs)

-- two labels for each number
pub length_labels : (first count : ℕ) → length (labels_from first count) ≡ 2 * count
length_labels first zero = omega arith
length_labels first (suc count) = omega (arith, length_labels (first + 1) count)

-- ---- layers

layer_by : (P : ℕ → Type 0) (b : Bool) (x y : ℕ) → P x → P y → All P (cond b (x ∷ []) (x ∷ y ∷ []))
layer_by P true x y at_x at_y = All-cons P x [] at_x (All-nil P)
layer_by P false x y at_x at_y = All-cons P x (y ∷ []) at_x (All-cons P y [] at_y (All-nil P))

layer_below : (count i : ℕ) → 2 * i < count + 2 → 0 < count → AreBelow count (layer i)
layer_below count i lt some = layer_by (λ (n : ℕ). n < count) (i == 1) (a_place i) (b_place i) (omega (arith, lt, some)) (omega (arith, lt, some))

length_by : (b : Bool) (x y : ℕ) → length (cond b (x ∷ []) (x ∷ y ∷ [])) ≤ 2
length_by true x y = omega arith
length_by false x y = omega arith

layer_small : (i : ℕ) → length (layer i) ≤ 2
layer_small i = length_by (i == 1) (a_place i) (b_place i)

-- ---- edges

from_below : (count i k : ℕ) → 2 * i < count + 2 → k < count → All (Joins count) (edges_from i k)
from_below count i k lt below =
    let J : Link → Type 0 = Joins count in
    All-cons J (record { a = k; b = a_place i }) (record { a = k; b = b_place i } ∷ []) (below, omega (arith, lt, below)) (All-cons J (record { a = k; b = b_place i }) [] (below, omega (arith, lt, below)) (All-nil J))

into_below : (count i : ℕ) → 2 * i < count + 2 → 0 < count → All (Joins count) (edges_into i)
into_below count i lt some =
    flat_all (λ (k : ℕ). k < count) (Joins count) (edges_from i) (λ k below. from_below count i k lt below) (layer (i - 1)) (layer_below count (i - 1) (omega (arith, lt)) some)

edges_below : (count n : ℕ) → 2 * n < count + 2 → 0 < count → All (Joins count) (edges_of n)
edges_below count n lt some =
    flat_all (λ (i : ℕ). 2 * i < count + 2) (Joins count) edges_into (λ i within. into_below count i within some) (range_with_len 2 (n - 1)) (range_all (λ (i : ℕ). 2 * i < count + 2) 2 (n - 1) (λ i from to. omega (arith, lt, from, to)))

from_length : (i k : ℕ) → length (edges_from i k) ≤ 2
from_length i k = omega arith

into_length : (i : ℕ) → length (edges_into i) ≤ 4
into_length i =
    omega (arith, flat_length 2 (edges_from i) (layer (i - 1)) (λ k d within. from_length i (get_or (layer (i - 1)) k d)), layer_small (i - 1))

length_range : (a n : ℕ) → length (range_with_len a n) ≡ n
length_range a zero = omega arith
length_range a (suc n) = omega (arith, length_range (a + 1) n)

edges_small : (n : ℕ) → n ≤ 200 → length (edges_of n) ≤ 800
edges_small n few =
    omega (arith, few, flat_length 4 edges_into (range_with_len 2 (n - 1)) (λ k d within. into_length (get_or (range_with_len 2 (n - 1)) k d)), length_range 2 (n - 1))

-- ---- graphs

pub layered_below : (count n : ℕ) → 2 * n < count + 2 → 0 < count → IsBelow count (layered n)
layered_below count n lt some = record { edges = edges_below count n lt some; delivered = layer_below count n lt some; dropped = All-nil (λ (n : ℕ). n < count) }

off_below : (count n : ℕ) → 2 * n < count + 2 → 0 < count → IsBelow count (cut_off n)
off_below count n lt some = record {
  edges = All-filter (λ edge. not (edge.b == b_place n)) (Joins count) (edges_of n) (edges_below count n lt some);
  delivered = All-filter (λ (m : ℕ). not (m == b_place n)) (λ (n : ℕ). n < count) (layer n) (layer_below count n lt some);
  dropped = layer_below count (n - 1) (omega (arith, lt)) some;
}

either : (P : Graph → Type 0) (b : Bool) (g h : Graph) → P g → P h → P (cond b g h)
either P true g h at_g at_h = at_g
either P false g h at_g at_h = at_h

pub cut_below : (count n : ℕ) → 2 * n < count + 2 → 0 < count → IsBelow count (cut n)
cut_below count n lt some = either (IsBelow count) (n == 1) (layered n) (cut_off n) (layered_below count n lt some) (off_below count n lt some)

pub lost_below : (count n : ℕ) → 2 * n < count + 2 → 0 < count → IsBelow count (lost n)
lost_below count n lt some = record {
  edges = edges_below count n lt some;
  delivered = All-filter (λ (m : ℕ). not (m == a_place n)) (λ (n : ℕ). n < count) (layer n) (layer_below count n lt some);
  dropped = All-nil (λ (n : ℕ). n < count);
}

pub layered_small : (n : ℕ) → n ≤ 200 → IsSmall (layered n)
layered_small n few = record { edges = edges_small n few; delivered = layer_small n; dropped = omega arith }

off_small : (n : ℕ) → n ≤ 200 → IsSmall (cut_off n)
off_small n few = record {
  edges = omega (arith, edges_small n few, filter_length (λ edge. not (edge.b == b_place n)) (edges_of n));
  delivered = omega (arith, layer_small n, filter_length (λ (m : ℕ). not (m == b_place n)) (layer n));
  dropped = layer_small (n - 1);
}

pub cut_small : (n : ℕ) → n ≤ 200 → IsSmall (cut n)
cut_small n few = either IsSmall (n == 1) (layered n) (cut_off n) (layered_small n few) (off_small n few)

pub lost_small : (n : ℕ) → n ≤ 200 → IsSmall (lost n)
lost_small n few = record { edges = edges_small n few; delivered = omega (arith, layer_small n, filter_length (λ (m : ℕ). not (m == a_place n)) (layer n)); dropped = omega arith }
