-- Outlines are compared as a whole, and tell a graph's paths.
use Rattle.std.proofs.Common.{◌≡◌, ◌≢◌, ℕ, ◌+◌, ◌<◌, ◌≤◌, ◌↔◌, Bool, nat_eq, true, ◌&&◌, List, [], ◌∷◌, ◌++◌, length, take, get_or, fold, inl, inr, sym, ap, subst, map, refl, arith, ◌∙◌}
use Rattle.std.specs.Bool.{beq, Decides}
use Rattle.std.specs.Cmp.Lexicographic.{pointwise}
use Rattle.std.specs.Hash as fed
use Rattle.std.specs.Hash.{HashWrites, fed_then}
use Rattle.std.specs.List.{Contains, flat_map}
use Rattle.std.proofs.lemmas.Bool.{and_parts}
use Rattle.std.proofs.lemmas.List.{length-map, take_all, get_or-map, take_more_same}
use Rattle.std.proofs.lemmas.Slice.Eq.{slice_eq-Decides, bytes_eq-Decides}
use Rattle.std.specs.Cmp.{booleans_Decides}
use Rattle.rela_names.specs.declared.level.Level.{Level}
use Rattle.rela_graph.proofs.Links.{links_decide}
use Rattle.rela_graph.specs.Outline.{Outline, outline_of, same_link, same_outline}
use Rattle.rela_graph.specs.SameOutline.{outlines_equivalent}
use Rattle.rela_graph.specs.Paths.{Paths, IsEnding, Arrives, Undelivered, locations, base}
use Rattle.rela_graph.specs.Topology.{Topology, HasEdge, HasFlag, symbol_at}
use Rattle.rela_graph.specs.Walk.{FollowsEdges, IsWalk, IsCyclic, IsDropNode}
use Rattle.rela_graph.specs.declared.node.Link.{Link}
use Rattle.rela_graph.specs.declared.node.Node.{Node}

same_parts : (x y : Outline) → x.places ≡ y.places → x.edges ≡ y.edges → x.starts ≡ y.starts → x.delivered ≡ y.delivered
    → x.dropped ≡ y.dropped → x ≡ y
same_parts x y places edges starts delivered dropped =
    λ i. record { places = places i; edges = edges i; starts = starts i; delivered = delivered i; dropped = dropped i }

same_flags : (xs ys : List Bool) → pointwise beq xs ys ≡ true → xs ≡ ys
same_flags xs ys = (slice_eq-Decides booleans_Decides xs ys (pointwise beq xs ys) refl).0

equal_outlines : (x y : Outline) → same_outline x y ≡ true → x ≡ y
equal_outlines x y h =
    let edges : Bool = pointwise same_link x.edges y.edges in
    let starts : Bool = pointwise beq x.starts y.starts in
    let delivered : Bool = pointwise beq x.delivered y.delivered in
    let dropped : Bool = pointwise beq x.dropped y.dropped in
    let first = and_parts (pointwise nat_eq x.places y.places) (edges && (starts && (delivered && dropped))) h in
    let second = and_parts edges (starts && (delivered && dropped)) first.1 in
    let third = and_parts starts (delivered && dropped) second.1 in
    let fourth = and_parts delivered dropped third.1 in
    same_parts x y ((bytes_eq-Decides x.places y.places).0 first.0) ((slice_eq-Decides links_decide x.edges y.edges edges refl).0 second.0)
    (same_flags x.starts y.starts third.0) (same_flags x.delivered y.delivered fourth.0) (same_flags x.dropped y.dropped fourth.1)

-- `==` decides whether two graphs look the same
pub outlines_decide : (x y : Outline) → Decides (same_outline x y) (x ≡ y)
outlines_decide x y = (equal_outlines x y, λ e. subst (λ z. same_outline x z ≡ true) e (outlines_equivalent.refl x))

-- the locations at one place of two lists of nodes
module _ (level other_level : Level) (nodes others : List Node) (n : ℕ) (d : Node) (a b : ℕ)
    (within : n < length nodes) (as_many : length nodes ≡ length others)
    (a_is : a ≡ symbol_at level (get_or nodes n d)) (b_is : b ≡ symbol_at other_level (get_or others n d)) where
  first_place : get_or (map (symbol_at level) nodes) n 0 ≡ a
  first_place = get_or-map (symbol_at level) nodes n d 0 within ∙ sym a_is

  second_place : get_or (map (symbol_at other_level) others) n 0 ≡ b
  second_place = get_or-map (symbol_at other_level) others n d 0 (omega (arith, within, as_many)) ∙ sym b_is

  -- where they differ, so do the lists of locations
  pub places_differ : a ≢ b → map (symbol_at level) nodes ≢ map (symbol_at other_level) others
  places_differ differ same = differ (sym first_place ∙ ap (λ (l : List ℕ). get_or l n 0) same ∙ second_place)

  -- where they are equal, one more is
  pub one_more_place : take n (map (symbol_at level) nodes) ≡ take n (map (symbol_at other_level) others) → a ≡ b
      → take (n + 1) (map (symbol_at level) nodes) ≡ take (n + 1) (map (symbol_at other_level) others)
  one_more_place so_far same =
      take_more_same (map (symbol_at level) nodes) (map (symbol_at other_level) others) n 0
      (omega (arith, within, length-map nodes (symbol_at level))) (omega (arith, within, as_many, length-map others (symbol_at other_level)))
      so_far (first_place ∙ same ∙ sym second_place)

-- what is made of each of a mapped list
pub flat_map-map : {X Y A : Type 0} (f : Y → List A) (g : X → Y) (xs : List X) → flat_map f (map g xs) ≡ flat_map (λ x. f (g x)) xs
flat_map-map f g [] = refl
flat_map-map f g (x ∷ xs) = ap (λ l. f (g x) ++ l) (flat_map-map f g xs)

-- the nodes' number, and then their locations, are what a list of locations is fed as
pub fed_places : {S : Type 0} (write : S → List ℕ → S) (level : Level) (nodes : List Node) (first second last : S) (i : ℕ) → length nodes ≤ i
    → second ≡ fold write first (fed.usize (length nodes))
    → last ≡ fold write second (flat_map (λ node. fed.u32 (symbol_at level node)) (take i nodes))
    → last ≡ fold write first (fed.slice fed.u32 (map (symbol_at level) nodes))
fed_places write level nodes first second last i over counted each =
    let places : List ℕ = map (symbol_at level) nodes in
    let all : last ≡ fold write second (flat_map (λ (node : Node). fed.u32 (symbol_at level node)) nodes) =
    subst (λ (l : List Node). last ≡ fold write second (flat_map (λ (node : Node). fed.u32 (symbol_at level node)) l)) (take_all i nodes over) each in
    let placed : last ≡ fold write second (flat_map fed.u32 places) =
    subst (λ (writes : HashWrites). last ≡ fold write second writes) (sym (flat_map-map fed.u32 (symbol_at level) nodes)) all in
    let long : second ≡ fold write first (fed.usize (length places)) =
    subst (λ (n : ℕ). second ≡ fold write first (fed.usize n)) (sym (length-map nodes (symbol_at level))) counted in
    fed_then write first second last (fed.usize (length places)) (flat_map fed.u32 places) long placed

edge_there : (g h : Topology) → g.edges ≡ h.edges → (a b : ℕ) → HasEdge g a b → HasEdge h a b
edge_there g h same a b edge = subst (λ (es : List Link). Contains es (record { a = a; b = b })) same edge

flag_there : (xs ys : List Bool) → xs ≡ ys → (n : ℕ) → HasFlag xs n → HasFlag ys n
flag_there xs ys same n flag = subst (λ (flags : List Bool). HasFlag flags n) same flag

follows_there : (g h : Topology) → g.edges ≡ h.edges → (walk : List ℕ) → FollowsEdges g walk → FollowsEdges h walk
follows_there g h same [] follows = follows
follows_there g h same (a ∷ []) follows = follows
follows_there g h same (a ∷ b ∷ rest) follows =
    (edge_there g h same a b follows.0, follows_there g h same (b ∷ rest) follows.1)

module _ (level : Level) (g h : Topology) (same : outline_of level g ≡ outline_of level h) where
  places : locations g level ≡ locations h level
  places = ap (λ (o : Outline). o.places) same

  edges : g.edges ≡ h.edges
  edges = ap (λ (o : Outline). o.edges) same

  starts : g.starts ≡ h.starts
  starts = ap (λ (o : Outline). o.starts) same

  delivered : g.delivered ≡ h.delivered
  delivered = ap (λ (o : Outline). o.delivered) same

  dropped : g.dropped ≡ h.dropped
  dropped = ap (λ (o : Outline). o.dropped) same

  walk_there : (walk : List ℕ) → IsWalk g walk → IsWalk h walk
  walk_there [] walks = walks
  walk_there (a ∷ rest) walks =
      (flag_there g.starts h.starts starts a walks.0, follows_there g h edges (a ∷ rest) walks.1)

  arrives_there : (n : ℕ) (word : List ℕ) → Arrives g (locations g level) n word → Arrives h (locations h level) n word
  arrives_there n word (before, walks, is_base) =
      (before, walk_there (before ++ n ∷ []) walks, subst (λ (at : List ℕ). base at (before ++ n ∷ []) ≡ word) places is_base)

  drops_there : (n : ℕ) → IsDropNode g n → IsDropNode h n
  drops_there n drops = elim drops [
    | inl listed ↦ inl (flag_there g.dropped h.dropped dropped n listed)
    | inr stuck ↦ inr (
      λ m edge. stuck.0 m (edge_there h g (sym edges) n m edge),
      λ delivers. stuck.1 (flag_there h.delivered g.delivered (sym delivered) n delivers),
    )
  ]

  cyclic_there : (n : ℕ) → IsCyclic g n → IsCyclic h n
  cyclic_there n (between, round) = (between, follows_there g h edges (n ∷ (between ++ n ∷ [])) round)

  ending_there : (names : List (List ℕ)) (n : ℕ) (ending : List ℕ) → IsEnding g names n ending → IsEnding h names n ending
  ending_there names n ending ends = elim ends [
    | inl delivers ↦ inl (flag_there g.delivered h.delivered delivered n delivers.0, delivers.1)
    | inr rest ↦ elim rest [
      | inl drops ↦ inr (inl (drops_there n drops.0, drops.1))
      | inr loops ↦ inr (inr (cyclic_there n loops.0, loops.1))
    ]
  ]

  path_there : (names : List (List ℕ)) (w : List ℕ) → Paths g level names w → Paths h level names w
  path_there names w (n, front, ending, arrives, ends, whole) =
      (n, front, ending, arrives_there n front arrives, ending_there names n ending ends, whole)

  undelivered_there : (names : List (List ℕ)) (w : List ℕ) → Undelivered g level names w → Undelivered h level names w
  undelivered_there names w (n, front, ending, arrives, ends, some, whole) =
      (n, front, ending, arrives_there n front arrives, ending_there names n ending ends, some, whole)

-- graphs that look the same at a level have the same arrivals there
pub same_arrivals : (level : Level) (g h : Topology) → outline_of level g ≡ outline_of level h → (n : ℕ) (w : List ℕ)
    → Arrives g (locations g level) n w ↔ Arrives h (locations h level) n w
same_arrivals level g h same n w = (arrives_there level g h same n w, arrives_there level h g (sym same) n w)

-- and the same paths that end undelivered
pub same_undelivered : (level : Level) (g h : Topology) → outline_of level g ≡ outline_of level h → (names : List (List ℕ)) (w : List ℕ)
    → Undelivered g level names w ↔ Undelivered h level names w
same_undelivered level g h same names w = (undelivered_there level g h same names w, undelivered_there level h g (sym same) names w)

-- graphs that look the same at a level have the same paths there
pub same_paths : (level : Level) (g h : Topology) → outline_of level g ≡ outline_of level h → (names : List (List ℕ)) (w : List ℕ)
    → Paths g level names w ↔ Paths h level names w
same_paths level g h same names w = (path_there level g h same names w, path_there level h g (sym same) names w)
