-- The paths of a graph whose locations are renamed one to one are the renamed paths.
use Rattle.std.proofs.Common.{◌≡◌, ◌∙◌, ℕ, ◌+◌, ◌<◌, ◌≤◌, Bool, false, List, [], ◌∷◌, ◌++◌, length, get_or, map, refl, sym, ap, subst, inl, inr, arith}
use Rattle.std.specs.Prelude.{slice_index}
use Rattle.std.specs.List.{All, Contains}
use Rattle.std.proofs.lemmas.Bool.{eq-eqb, ne_eqb, both_ways, cases_eq, cases_lt}
use Rattle.std.proofs.lemmas.List.{length-map, map-append, get_or-map, get_or_past}
use Rattle.std.proofs.lemmas.List.Elements.{All-contains}
use Rattle.rela_names.specs.declared.level.Level.{Level}
use Rattle.rela_graph.specs.Topology.{Topology, IsTopology, JoinsNodes, HasEdge, HasFlag, symbol_at}
use Rattle.rela_graph.specs.Walk.{FollowsEdges, IsWalk, IsCyclic, IsDropNode}
use Rattle.rela_graph.specs.Paths.{Paths, Arrives, IsEnding, locations, base, squeeze, squeeze_after}
use Rattle.rela_graph.specs.declared.node.Link.{Link}
use Rattle.rela_shape.specs.Renamed.{AreWiredAlike}

-- runs of equal symbols are renamed to runs of equal symbols
module _ (to : ℕ → ℕ) (one_to_one : (s t : ℕ) → to s ≡ to t → s ≡ t) where
  squeezed_after : (x : ℕ) (ys : List ℕ) → squeeze_after (to x) (map to ys) ≡ map to (squeeze_after x ys)
  squeezed_after x [] = refl
  squeezed_after x (y ∷ ys) = elim (cases_eq x y) [
    | inl same ↦ let t = eq-eqb x y same in let u = eq-eqb (to x) (to y) (ap to same) in rw (t, u) (squeezed_after y ys)
    | inr apart ↦
        let t = ne_eqb x y apart in
        let u = ne_eqb (to x) (to y) (λ e. apart (one_to_one x y e)) in
        rw (t, u) (ap (λ (r : List ℕ). to y ∷ r) (squeezed_after y ys))
  ]

  squeezed : (xs : List ℕ) → squeeze (map to xs) ≡ map to (squeeze xs)
  squeezed [] = refl
  squeezed (x ∷ xs) = ap (λ (r : List ℕ). to x ∷ r) (squeezed_after x xs)

-- flags are of nodes, and edges lead to nodes
flag_within : (flags : List Bool) (n : ℕ) → HasFlag flags n → n < length flags
flag_within flags n flag = elim (cases_lt n (length flags)) [
  | inl below ↦ below
  | inr past ↦ absurd (both_ways _ (get_or_past flags n false past) flag)
]

edge_node : (g : Topology) → IsTopology g → (a b : ℕ) → HasEdge g a b → b < length g.nodes
edge_node g is a b edge = (All-contains (JoinsNodes (length g.nodes)) g.edges (record { a = a; b = b }) is.joins edge).1

-- what graphs that are wired alike have in common
edge_there : (g h : Topology) → g.edges ≡ h.edges → (a b : ℕ) → HasEdge g a b → HasEdge h a b
edge_there g h same a b edge = subst (λ (es : List Link). Contains es (record { a = a; b = b })) same edge

flag_there : (xs ys : List Bool) → xs ≡ ys → (n : ℕ) → HasFlag xs n → HasFlag ys n
flag_there xs ys same n flag = subst (λ (flags : List Bool). HasFlag flags n) same flag

follows_there : (g h : Topology) → g.edges ≡ h.edges → (walk : List ℕ) → FollowsEdges g walk → FollowsEdges h walk
follows_there g h same [] follows = follows
follows_there g h same (a ∷ []) follows = follows
follows_there g h same (a ∷ b ∷ rest) follows =
    (edge_there g h same a b follows.0, follows_there g h same (b ∷ rest) follows.1)

walk_there : (g h : Topology) → AreWiredAlike g h → (walk : List ℕ) → IsWalk g walk → IsWalk h walk
walk_there g h alike [] walks = walks
walk_there g h alike (a ∷ rest) walks = (flag_there g.starts h.starts alike.starts a walks.0, follows_there g h alike.edges (a ∷ rest) walks.1)

drops_there : (g h : Topology) → AreWiredAlike g h → (n : ℕ) → IsDropNode g n → IsDropNode h n
drops_there g h alike n drops = elim drops [
  | inl listed ↦ inl (flag_there g.dropped h.dropped alike.dropped n listed)
  | inr stuck ↦ inr (
    λ m edge. stuck.0 m (edge_there h g (sym alike.edges) n m edge),
    λ delivers. stuck.1 (flag_there h.delivered g.delivered (sym alike.delivered) n delivers),
  )
]

cyclic_there : (g h : Topology) → AreWiredAlike g h → (n : ℕ) → IsCyclic g n → IsCyclic h n
cyclic_there g h alike n (between, round) = (between, follows_there g h alike.edges (n ∷ (between ++ n ∷ [])) round)

-- where one has at most renamed locations, and the symbols for `drop` and `loop` stay
module _ (level : Level) (names : List (List ℕ)) (g h : Topology) (is : IsTopology g) (alike : AreWiredAlike g h)
    (to : ℕ → ℕ) (one_to_one : (s t : ℕ) → to s ≡ to t → s ≡ t) (placed : map to (locations g level) ≡ locations h level)
    (drops : to (length names) ≡ length names) (loops : to (length names + 1) ≡ length names + 1) where
  place_at : (n : ℕ) → n < length g.nodes → slice_index (locations h level) n ≡ to (slice_index (locations g level) n)
  place_at n within =
      ap (λ (l : List ℕ). get_or l n 0) (sym placed)
      ∙ get_or-map to (locations g level) n 0 0 (omega (arith, within, length-map g.nodes (symbol_at level)))

  places_after : (a : ℕ) (rest : List ℕ) → a < length g.nodes → FollowsEdges g (a ∷ rest)
      → map (λ n. slice_index (locations h level) n) (a ∷ rest) ≡ map to (map (λ n. slice_index (locations g level) n) (a ∷ rest))
  places_after a [] within follows = ap (λ (s : ℕ). s ∷ []) (place_at a within)
  places_after a (b ∷ rest) within follows =
      let first = place_at a within in
      let others = places_after b rest (edge_node g is a b follows.0) follows.1 in
      (λ i. first i ∷ others i)

  places_along : (walk : List ℕ) → IsWalk g walk
      → map (λ n. slice_index (locations h level) n) walk ≡ map to (map (λ n. slice_index (locations g level) n) walk)
  places_along [] walks = refl
  places_along (a ∷ rest) walks =
      places_after a rest (let within = flag_within g.starts a walks.0 in let len = is.starts in omega arith) walks.1

  base_there : (walk : List ℕ) → IsWalk g walk → base (locations h level) walk ≡ map to (base (locations g level) walk)
  base_there walk walks =
      ap squeeze (places_along walk walks) ∙ squeezed to one_to_one (map (λ n. slice_index (locations g level) n) walk)

  arrives_there : (n : ℕ) (word : List ℕ) → Arrives g (locations g level) n word → Arrives h (locations h level) n (map to word)
  arrives_there n word (before, walks, is_base) = (
    before,
    walk_there g h alike (before ++ n ∷ []) walks,
    base_there (before ++ n ∷ []) walks ∙ ap (map to) is_base,
  )

  ending_there : (n : ℕ) (ending : List ℕ) → IsEnding g names n ending → IsEnding h names n (map to ending)
  ending_there n ending ends = elim ends [
    | inl delivers ↦ inl (flag_there g.delivered h.delivered alike.delivered n delivers.0, ap (map to) delivers.1)
    | inr rest ↦ elim rest [
      | inl dropping ↦ inr (inl (drops_there g h alike n dropping.0, ap (map to) dropping.1 ∙ ap (λ (s : ℕ). s ∷ []) drops))
      | inr looping ↦ inr (inr (cyclic_there g h alike n looping.0, ap (map to) looping.1 ∙ ap (λ (s : ℕ). s ∷ []) loops))
    ]
  ]

  pub path_there : (word : List ℕ) → Paths g level names word → Paths h level names (map to word)
  path_there word (n, front, ending, arrives, ends, whole) = (
    n,
    map to front,
    map to ending,
    arrives_there n front arrives,
    ending_there n ending ends,
    ap (map to) whole ∙ map-append to front ending,
  )

-- a graph that is wired like another with each node's flags is one too
pub topology_there : (g h : Topology) → AreWiredAlike g h → IsTopology g → IsTopology h
topology_there g h alike is = record {
  few_nodes = let same = alike.nodes in let few = is.few_nodes in omega arith;
  few_edges = subst (λ (es : List Link). length es ≤ 100000) alike.edges is.few_edges;
  joins = subst (λ (es : List Link). All (JoinsNodes (length h.nodes)) es) alike.edges
      (subst (λ (n : ℕ). All (JoinsNodes n) g.edges) alike.nodes is.joins);
  starts = sym (ap length alike.starts) ∙ is.starts ∙ alike.nodes;
  delivered = sym (ap length alike.delivered) ∙ is.delivered ∙ alike.nodes;
  dropped = sym (ap length alike.dropped) ∙ is.dropped ∙ alike.nodes;
}
