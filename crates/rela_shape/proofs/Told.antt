-- What a graph feeds a hasher tells it: graphs of one wiring have the same edges and flags.
use Rattle.std.proofs.Common.{◌≡◌, ℕ, suc, ◌<◌, ◌^◌, Bool, true, false, List, [], ◌∷◌, ◌++◌, length, get_or, take, All, refl, sym, ap, ap₂, ◌∙◌, arith, append_assoc}
use Rattle.std.specs.Hash as fed
use Rattle.std.specs.Hash.{HashWrites, le_bytes}
use Rattle.std.specs.Int.{from_le_bytes, w32, w64}
use Rattle.std.specs.List.{concat, flat_map}
use Rattle.std.proofs.lemmas.List.{append-nil, append_cancel_left}
use Rattle.std.proofs.lemmas.List.Folds.{concat-append}
use Rattle.std.proofs.lemmas.Nat.{from_le_bytes-to_le_bytes_4, from_le_bytes-to_le_bytes_8}
use Rattle.std.proofs.Math.Seq.{take-append_seam}
use Rattle.rela_graph.specs.Outline.{link_writes}
use Rattle.rela_graph.specs.Topology.{IsTopology, JoinsNodes, Topology}
use Rattle.rela_graph.specs.declared.node.Link.{Link}
use Rattle.rela_shape.specs.Wiring.{wiring_of}
use Rattle.rela_shape.proofs.Fed.{flag_long, le_bytes_long, link_long, short_long}

-- bytes that begin with parts of one length
parts_agree : (a b r s : List ℕ) → length a ≡ length b → a ++ r ≡ b ++ s → (a ≡ b) × (r ≡ s)
parts_agree a b r s len equal =
    let first : a ≡ b = sym (take-append_seam a r) ∙ ap₂ (λ n l. take n l) len equal ∙ take-append_seam b s in
    (first, append_cancel_left b r s (ap (λ l. l ++ r) (sym first) ∙ equal))

number_told : (m n : ℕ) → m < 2 ^ 32 → n < 2 ^ 32 → le_bytes 4 m ≡ le_bytes 4 n → m ≡ n
unfolding le_bytes
number_told m n m_fits n_fits equal =
    sym (from_le_bytes-to_le_bytes_4 m m_fits) ∙ ap (λ l. from_le_bytes w32 l) equal ∙ from_le_bytes-to_le_bytes_4 n n_fits

count_told : (m n : ℕ) → m < 2 ^ 64 → n < 2 ^ 64 → le_bytes 8 m ≡ le_bytes 8 n → m ≡ n
unfolding le_bytes
count_told m n m_fits n_fits equal =
    sym (from_le_bytes-to_le_bytes_8 m m_fits) ∙ ap (λ l. from_le_bytes w64 l) equal ∙ from_le_bytes-to_le_bytes_8 n n_fits

-- items that are fed as so many bytes each, which tell those that have the property
module _ {T : Type 0} (P : T → Type 0) (F : T → HashWrites) (size : ℕ) (each : (x : T) → length (concat (F x)) ≡ size)
    (told : (x y : T) → P x → P y → concat (F x) ≡ concat (F y) → x ≡ y) where
  first_item : (x : T) (xs : List T) (r : List ℕ) → concat (flat_map F (x ∷ xs)) ++ r ≡ concat (F x) ++ (concat (flat_map F xs) ++ r)
  first_item x xs r = ap (λ l. l ++ r) (concat-append (F x) (flat_map F xs)) ∙ append_assoc (concat (F x)) (concat (flat_map F xs)) r

  rest_of : (x : T) (xs : List T) → All P (x ∷ xs) → All P xs
  rest_of x xs all k d below = all (suc k) d (omega (arith, below))

  items_told : (xs ys : List T) (r s : List ℕ) → All P xs → All P ys → length xs ≡ length ys → concat (flat_map F xs) ++ r ≡ concat (flat_map F ys) ++ s → (xs ≡ ys) × (r ≡ s)
  items_told [] [] r s all_x all_y len equal = (refl, equal)
  items_told [] (y ∷ ys) r s all_x all_y len equal = absurd (omega (arith, len))
  items_told (x ∷ xs) [] r s all_x all_y len equal = absurd (omega (arith, len))
  items_told (x ∷ xs) (y ∷ ys) r s all_x all_y len equal =
      let parts = parts_agree (concat (F x)) (concat (F y)) (concat (flat_map F xs) ++ r) (concat (flat_map F ys) ++ s) (each x ∙ sym (each y))
      (sym (first_item x xs r) ∙ equal ∙ first_item y ys s) in
      let rest = items_told xs ys r s (rest_of x xs all_x) (rest_of y ys all_y) (omega (arith, len)) parts.1 in
      (ap₂ (λ z zs. z ∷ zs) (told x y (all_x 0 x (omega arith)) (all_y 0 y (omega arith)) parts.0) rest.0, rest.1)

  pub slices_told : (xs ys : List T) (r s : List ℕ) → All P xs → All P ys → length xs < 2 ^ 64 → length ys < 2 ^ 64
      → concat (fed.slice F xs) ++ r ≡ concat (fed.slice F ys) ++ s → (xs ≡ ys) × (r ≡ s)
  slices_told xs ys r s all_x all_y few_x few_y equal =
      let split : (zs : List T) (q : List ℕ) → concat (fed.slice F zs) ++ q ≡ le_bytes 8 (length zs) ++ (concat (flat_map F zs) ++ q) =
      λ zs q. append_assoc (le_bytes 8 (length zs)) (concat (flat_map F zs)) q in
      let parts = parts_agree (le_bytes 8 (length xs)) (le_bytes 8 (length ys)) (concat (flat_map F xs) ++ r) (concat (flat_map F ys) ++ s)
      (le_bytes_long (length xs) ∙ sym (le_bytes_long (length ys))) (sym (split xs r) ∙ equal ∙ split ys s) in
      items_told xs ys r s all_x all_y (count_told (length xs) (length ys) few_x few_y parts.0) parts.1

-- the ends of an edge fit in four bytes
abbrev IsNarrow : Link → Type 0
IsNarrow link = (link.a < 2 ^ 32) × (link.b < 2 ^ 32)

link_told : (x y : Link) → IsNarrow x → IsNarrow y → concat (link_writes x) ≡ concat (link_writes y) → x ≡ y
link_told x y x_fits y_fits equal =
    let a_parts = parts_agree (le_bytes 4 x.a) (le_bytes 4 y.a) (le_bytes 4 x.b ++ []) (le_bytes 4 y.b ++ []) (short_long x.a ∙ sym (short_long y.a)) equal in
    let b_parts = parts_agree (le_bytes 4 x.b) (le_bytes 4 y.b) [] [] (short_long x.b ∙ sym (short_long y.b)) a_parts.1 in
    let a_is = number_told x.a y.a x_fits.0 y_fits.0 a_parts.0 in
    let b_is = number_told x.b y.b x_fits.1 y_fits.1 b_parts.0 in
    λ i. record { a = a_is i; b = b_is i }

abbrev IsAny : Bool → Type 0
IsAny flag = Unit {0}

any_flags : (flags : List Bool) → All IsAny flags
any_flags flags k d below = tt

flag_told : (x y : Bool) → IsAny x → IsAny y → concat (fed.bool x) ≡ concat (fed.bool y) → x ≡ y
flag_told true true _ _ equal = refl
flag_told false false _ _ equal = refl
flag_told true false _ _ equal = absurd (let e : 1 ≡ 0 = ap (λ l. get_or l 0 0) equal in omega (arith, e))
flag_told false true _ _ equal = absurd (let e : 0 ≡ 1 = ap (λ l. get_or l 0 0) equal in omega (arith, e))

narrow : (count : ℕ) → count < 2 ^ 32 → (links : List Link) → All (JoinsNodes count) links → All IsNarrow links
narrow count few links joins k d below =
    let ends = joins k d below in
    (omega (arith, ends.0, few), omega (arith, ends.1, few))

edges_narrow : (g : Topology) → IsTopology g → All IsNarrow g.edges
edges_narrow g is = narrow (length g.nodes) (let few = is.few_nodes in omega (arith, few)) g.edges is.joins

flags_told : (xs ys : List Bool) (r s : List ℕ) → length xs < 2 ^ 64 → length ys < 2 ^ 64
    → concat (fed.slice fed.bool xs) ++ r ≡ concat (fed.slice fed.bool ys) ++ s → (xs ≡ ys) × (r ≡ s)
flags_told xs ys r s = slices_told IsAny fed.bool 1 flag_long flag_told xs ys r s (any_flags xs) (any_flags ys)

-- the bytes of a wiring, list after list
wiring_lists : (g : Topology) → wiring_of g ≡ concat (fed.slice link_writes g.edges)
    ++ (concat (fed.slice fed.bool g.starts) ++ (concat (fed.slice fed.bool g.delivered) ++ (concat (fed.slice fed.bool g.dropped) ++ [])))
unfolding wiring_of
wiring_lists g =
    let edges = fed.slice link_writes g.edges in
    let starts = fed.slice fed.bool g.starts in
    let delivered = fed.slice fed.bool g.delivered in
    let dropped = fed.slice fed.bool g.dropped in
    concat-append edges (starts ++ (delivered ++ dropped))
    ∙ ap (λ l. concat edges ++ l) (concat-append starts (delivered ++ dropped)
    ∙ ap (λ l. concat starts ++ l) (concat-append delivered dropped
    ∙ ap (λ l. concat delivered ++ l) (sym (append-nil (concat dropped)))))

-- the edges and flags of two graphs are equal
pub record AreOneWiring (g h : Topology) : Type 0 where
  pub edges : g.edges ≡ h.edges
  pub starts : g.starts ≡ h.starts
  pub delivered : g.delivered ≡ h.delivered
  pub dropped : g.dropped ≡ h.dropped

pub wiring_told : (g h : Topology) → IsTopology g → IsTopology h → wiring_of g ≡ wiring_of h → AreOneWiring g h
wiring_told g h g_is h_is equal =
    let rest : Topology → List ℕ = λ t. concat (fed.slice fed.bool t.delivered) ++ (concat (fed.slice fed.bool t.dropped) ++ []) in
    let few : (n : ℕ) → n < 100001 → n < 2 ^ 64 = λ n less. omega (arith, less) in
    let edges = slices_told IsNarrow link_writes 8 link_long link_told g.edges h.edges (concat (fed.slice fed.bool g.starts) ++ rest g) (concat (fed.slice fed.bool h.starts) ++ rest h)
    (edges_narrow g g_is) (edges_narrow h h_is) (few (length g.edges) (omega (arith, g_is.few_edges))) (few (length h.edges) (omega (arith, h_is.few_edges)))
    (sym (wiring_lists g) ∙ equal ∙ wiring_lists h) in
    let starts = flags_told g.starts h.starts (rest g) (rest h) (few (length g.starts) (omega (arith, g_is.starts, g_is.few_nodes)))
    (few (length h.starts) (omega (arith, h_is.starts, h_is.few_nodes))) edges.1 in
    let delivered = flags_told g.delivered h.delivered (concat (fed.slice fed.bool g.dropped) ++ []) (concat (fed.slice fed.bool h.dropped) ++ [])
    (few (length g.delivered) (omega (arith, g_is.delivered, g_is.few_nodes))) (few (length h.delivered) (omega (arith, h_is.delivered, h_is.few_nodes))) starts.1 in
    let dropped = flags_told g.dropped h.dropped [] []
    (few (length g.dropped) (omega (arith, g_is.dropped, g_is.few_nodes))) (few (length h.dropped) (omega (arith, h_is.dropped, h_is.few_nodes))) delivered.1 in
    record { edges = edges.0; starts = starts.0; delivered = delivered.0; dropped = dropped.0 }
