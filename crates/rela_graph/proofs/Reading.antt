-- What the automaton of a graph's walks reaches and accepts.
use Rattle.std.proofs.Common.{◌≡◌, ◌≢◌, ℕ, zero, suc, ◌+◌, ◌<◌, ◌⊎◌, ◌↔◌, true, false, List, [], ◌∷◌, ◌++◌, length, get_or, Option, None, Some, refl, sym, ap, ◌∙◌, subst, inl, inr, arith, length-append}
use Rattle.std.specs.List.{All}
use Rattle.std.specs.Option.{option_to_list}
use Rattle.std.proofs.lemmas.Bool.{cases_eq, eq-eqb, ne_eqb}
use Rattle.std.proofs.lemmas.List.{append-nil, map_push, get_or_append_left, get_or-append-add, get_or_at}
use Rattle.std.proofs.lemmas.List.Elements.{All-nil, All-cons, All-push}
use Rattle.rela_names.specs.declared.level.Level.{Level}
use Rattle.rela_labels.specs.Partition.{block_of}
use Rattle.rela_nfa.specs.Automaton.{Automaton, IsFinal}
use Rattle.rela_nfa.specs.Relabelling.{blocks_of}
use Rattle.rela_nfa.specs.Runs.{StepIn, HasStep, Reach, Accepts}
use Rattle.rela_graph.specs.Alone.{StandsAlone}
use Rattle.rela_graph.specs.Lettering.{letter_at, read_between}
use Rattle.rela_graph.specs.Paths.{Paths, Undelivered, Arrives, base, locations}
use Rattle.rela_graph.specs.Topology.{Topology, IsTopology, HasEdge, IsStart, IsDelivered}
use Rattle.rela_graph.specs.Walk.{IsWalk, IsCyclic, IsDropNode}
use Rattle.rela_graph.specs.declared.letters.Letters.{Letters}
use Rattle.rela_graph.proofs.Arriving.{base_same, base_other, arrive_same, arrive_other}
use Rattle.rela_graph.proofs.Blocked.{same_word}
use Rattle.rela_graph.proofs.Flagged.{flag_within}
use Rattle.rela_graph.proofs.Stepping.{no_step, reach_start, reach_step, reach_silent, reach_each}
use Rattle.rela_graph.proofs.Unrolling.{IsReader}
use Rattle.rela_graph.proofs.Walking.{ending, walk_back}
use Rattle.rela_graph.proofs.Ways.{edge_node, walk_node}

-- the letters are the blocks of the locations, of `drop` and of `loop`, and each of these stands alone
pub record IsLettered (g : Topology) (places blocks : List ℕ) (names : ℕ) (letters : Letters) : Type 0 where
  pub nodes : (n : ℕ) → n < length g.nodes → letter_at letters n ≡ block_of blocks (get_or places n 0)
  pub drops : letters.drop_letter ≡ block_of blocks names
  pub loops : letters.loop_letter ≡ block_of blocks (names + 1)
  pub within : (n : ℕ) → n < length g.nodes → get_or places n 0 < length blocks
  pub alone : (n : ℕ) → n < length g.nodes → StandsAlone blocks (get_or places n 0)
  pub alone_drop : StandsAlone blocks names
  pub alone_loop : StandsAlone blocks (names + 1)

module _ (g : Topology) (level : Level) (alphabet : List (List ℕ)) (blocks : List ℕ) (letters : Letters) (r : Automaton)
    (is : IsTopology g) (lettered : IsLettered g (locations g level) blocks (length alphabet) letters) (built : IsReader g letters r) where
  abbrev places : List ℕ
  places = locations g level

  abbrev place : ℕ → ℕ
  place n = get_or places n 0

  abbrev count : ℕ
  count = length g.nodes

  -- a base word of walks that end at n, told by its blocks
  abbrev Arrived : ℕ → List ℕ → Type 0
  Arrived n v = (w : List ℕ) × Arrives g places n w × All (StandsAlone blocks) w × (blocks_of blocks w ≡ v)

  -- how the walks that end at n come to the last state
  abbrev Stops : ℕ → ℕ → Type 0
  Stops n k = (IsDropNode g n × (k ≡ letters.drop_letter)) ⊎ (IsCyclic g n × (k ≡ letters.loop_letter))

  abbrev Stopped : List ℕ → Type 0
  Stopped v = (n : ℕ) × (front : List ℕ) × (k : ℕ) × Arrived n front × Stops n k × (v ≡ front ++ k ∷ [])

  abbrev Stands : ℕ → List ℕ → Type 0
  Stands q v = (n : ℕ) × (q ≡ 1 + n) × (n < count) × Arrived n v

  -- what reaches a state
  abbrev At : ℕ → List ℕ → Type 0
  At q v = ((q ≡ 0) × (v ≡ [])) ⊎ (Stands q v ⊎ ((q ≡ 1 + count) × Stopped v))

  same_places : (n m : ℕ) → n < count → m < count → letter_at letters n ≡ letter_at letters m → place n ≡ place m
  same_places n m in_n in_m same = lettered.alone n in_n (place m) (lettered.within m in_m) (sym (lettered.nodes n in_n) ∙ same ∙ lettered.nodes m in_m)

  started : (n : ℕ) → IsStart g n → Arrived n (letter_at letters n ∷ [])
  started n start =
      let within : n < count = let w = flag_within g.starts n start in omega (arith, w, is.starts) in (
        place n ∷ [],
        ([], (start, tt), refl),
        All-cons (StandsAlone blocks) (place n) [] (lettered.alone n within) (All-nil (StandsAlone blocks)),
        ap (λ k. k ∷ []) (sym (lettered.nodes n within)),
      )

  stays : (n m : ℕ) (v : List ℕ) → n < count → m < count → Arrived n v → HasEdge g n m → letter_at letters n ≡ letter_at letters m → Arrived m v
  stays n m v in_n in_m (w, arrives, alone, blocked) edge same = (w, arrive_same g places n m w arrives edge (same_places n m in_n in_m same), alone, blocked)

  moves : (n m : ℕ) (v : List ℕ) → n < count → m < count → Arrived n v → HasEdge g n m → letter_at letters n ≢ letter_at letters m → Arrived m (v ++ letter_at letters m ∷ [])
  moves n m v in_n in_m (w, arrives, alone, blocked) edge apart =
      let elsewhere : place n ≢ place m = λ same. apart (lettered.nodes n in_n ∙ ap (block_of blocks) same ∙ sym (lettered.nodes m in_m)) in (
        w ++ place m ∷ [],
        arrive_other g places n m (place m) w arrives edge elsewhere refl,
        All-push (StandsAlone blocks) w (place m) alone (lettered.alone m in_m),
        map_push (block_of blocks) w (place m) ∙ ap (λ l. l ++ block_of blocks (place m) ∷ []) blocked ∙ ap (λ k. v ++ k ∷ []) (sym (lettered.nodes m in_m)),
      )

  read_same : (n m : ℕ) → letter_at letters n ≡ letter_at letters m → read_between letters n m ≡ None
  read_same n m same = let t = eq-eqb (letter_at letters n) (letter_at letters m) same in rw t refl

  read_other : (n m : ℕ) → letter_at letters n ≢ letter_at letters m → read_between letters n m ≡ Some (letter_at letters m)
  read_other n m apart = let t = ne_eqb (letter_at letters n) (letter_at letters m) apart in rw t refl

  along : (n m : ℕ) (v : List ℕ) → n < count → Arrived n v → HasEdge g n m → Arrived m (v ++ option_to_list (read_between letters n m))
  along n m v in_n arrived edge =
      let in_m : m < count = edge_node g is n m edge in
      elim (cases_eq (letter_at letters n) (letter_at letters m)) [
        | inl same ↦
            subst (λ l. Arrived m l) (sym (ap (λ o. v ++ option_to_list o) (read_same n m same) ∙ append-nil v)) (stays n m v in_n in_m arrived edge same)
        | inr apart ↦ subst (λ o. Arrived m (v ++ option_to_list o)) (sym (read_other n m apart)) (moves n m v in_n in_m arrived edge apart)
      ]

  from_first : (q : ℕ) (letter : Option ℕ) → HasStep r 0 letter q → Stands q (option_to_list letter)
  from_first q letter step =
      let (n, start, reads, leads) = (built.edges.first.steps letter q).0 step in
      (n, leads, (let w = flag_within g.starts n start in omega (arith, w, is.starts)), subst (λ o. Arrived n (option_to_list o)) (sym reads) (started n start))

  from_node : (n q : ℕ) (letter : Option ℕ) (v : List ℕ) → n < count → Arrived n v → HasStep r (1 + n) letter q → At q (v ++ option_to_list letter)
  from_node n q letter v below arrived step = elim ((((built.edges.nodes n below).steps) letter q).0 step) [
    | inl (m, edge, reads, leads) ↦
        inr (inl (m, leads, edge_node g is n m edge, subst (λ o. Arrived m (v ++ option_to_list o)) (sym reads) (along n m v below arrived edge)))
    | inr rest ↦ elim rest [
      | inl (drops, reads, leads) ↦ inr (inr (leads, (n, v, letters.drop_letter, arrived, inl (drops, refl), ap (λ o. v ++ option_to_list o) reads)))
      | inr (cyclic, reads, leads) ↦ inr (inr (leads, (n, v, letters.loop_letter, arrived, inr (cyclic, refl), ap (λ o. v ++ option_to_list o) reads)))
    ]
  ]

  kept : (p q : ℕ) (letter : Option ℕ) (v : List ℕ) → Reach r p v → At p v → HasStep r p letter q → At q (v ++ option_to_list letter)
  kept p q letter v reach at step = elim at [
    | inl (first, empty) ↦
        inr (inl (subst (λ l. Stands q (l ++ option_to_list letter)) (sym empty) (from_first q letter (subst (λ n. HasStep r n letter q) first step))))
    | inr later ↦ elim later [
      | inl (n, here, below, arrived) ↦ from_node n q letter v below arrived (subst (λ i. HasStep r i letter q) here step)
      | inr (last, stopped) ↦
          absurd (no_step letter q (subst (λ l. StepIn l letter q) built.edges.last (subst (λ i. HasStep r i letter q) last step)))
    ]
  ]

  only : (q : ℕ) (v : List ℕ) → Reach r q v → At q v
  only = reach_each r At kept (inl (built.start, refl))

  at_first : Reach r 0 []
  at_first = subst (λ n. Reach r n []) built.start (reach_start r)

  -- each walk is read
  read : (k : ℕ) (xs : List ℕ) (n : ℕ) → length xs ≡ k → IsWalk g (xs ++ n ∷ []) → Reach r (1 + n) (blocks_of blocks (base places (xs ++ n ∷ [])))
  read k [] n len walk =
      let within : n < count = walk_node g is [] n walk in
      subst (λ l. Reach r (1 + n) (l ∷ [])) (lettered.nodes n within)
      (reach_step r 0 (1 + n) (Some (letter_at letters n)) [] at_first ((built.edges.first.steps (Some (letter_at letters n)) (1 + n)).1 (n, walk.0, refl, refl)))
  read zero (x ∷ xs) n len walk = absurd (omega (arith, len))
  read (suc k) (x ∷ xs) n len walk =
      let e = ending x xs in
      let ys : List ℕ = e.0 in
      let u : ℕ = e.1 in
      let longer : IsWalk g ((ys ++ u ∷ []) ++ n ∷ []) = subst (λ (l : List ℕ). IsWalk g (l ++ n ∷ [])) e.2 walk in
      let parts = walk_back g ys u n longer in
      let short : length ys ≡ k = let l = ap length e.2 in omega (arith, l, len, length-append ys (u ∷ [])) in
      let before : Reach r (1 + u) (blocks_of blocks (base places (ys ++ u ∷ []))) = read k ys u short parts.0 in
      let in_u : u < count = walk_node g is ys u parts.0 in
      let in_n : n < count = walk_node g is (ys ++ u ∷ []) n longer in
      let step : HasStep r (1 + u) (read_between letters u n) (1 + n) =
      ((built.edges.nodes u in_u).steps (read_between letters u n) (1 + n)).1 (inl (n, parts.1, refl, refl)) in
      subst (λ (l : List ℕ). Reach r (1 + n) (blocks_of blocks (base places (l ++ n ∷ [])))) (sym e.2)
      (elim (cases_eq (letter_at letters u) (letter_at letters n)) [
        | inl same ↦
            subst (λ l. Reach r (1 + n) (blocks_of blocks l)) (sym (base_same g places ys u n (same_places u n in_u in_n same)))
            (reach_silent r (1 + u) (1 + n) (blocks_of blocks (base places (ys ++ u ∷ []))) before (subst (λ o. HasStep r (1 + u) o (1 + n)) (read_same u n same) step))
        | inr apart ↦
            let elsewhere : place u ≢ place n = λ alike. apart (lettered.nodes u in_u ∙ ap (block_of blocks) alike ∙ sym (lettered.nodes n in_n)) in
            let word = base places (ys ++ u ∷ []) in
            subst (λ l. Reach r (1 + n) (blocks_of blocks l)) (sym (base_other g places ys u n elsewhere))
            (subst (λ l. Reach r (1 + n) l) (sym (map_push (block_of blocks) word (place n)))
            (subst (λ l. Reach r (1 + n) (blocks_of blocks word ++ l ∷ [])) (lettered.nodes n in_n)
            (reach_step r (1 + u) (1 + n) (Some (letter_at letters n)) (blocks_of blocks word) before (subst (λ o. HasStep r (1 + u) o (1 + n)) (read_other u n apart) step))))
      ])

  arrives_reach : (n : ℕ) (w : List ℕ) → Arrives g places n w → Reach r (1 + n) (blocks_of blocks w)
  arrives_reach n w (xs, walk, word) = subst (λ l. Reach r (1 + n) (blocks_of blocks l)) word (read (length xs) xs n refl walk)

  arrives_node : (n : ℕ) (w : List ℕ) → Arrives g places n w → n < count
  arrives_node n w (xs, walk, word) = walk_node g is xs n walk

  abbrev OfSymbols : List ℕ → Type 0
  OfSymbols w = All (λ s. s < length blocks) w

  pub read_begin : (w : List ℕ) → Reach r 0 w ↔ (w ≡ [])
  read_begin w = (
    λ reach. elim (only 0 w reach) [
      | inl first ↦ first.1
      | inr later ↦ elim later [ inl stands ↦ absurd (omega (arith, stands.1)) | inr last ↦ absurd (omega (arith, last.0)) ]
    ],
    λ empty. subst (λ l. Reach r 0 l) (sym empty) at_first,
  )

  -- a word of symbols is told by its blocks
  arrived_word : (n : ℕ) (w : List ℕ) → OfSymbols w → Arrived n (blocks_of blocks w) → Arrives g places n w
  arrived_word n w symbols (word, arrives, alone, blocked) = subst (λ l. Arrives g places n l) (same_word blocks word w alone symbols blocked) arrives

  pub read_nodes : (n : ℕ) (w : List ℕ) → n < count → OfSymbols w → Reach r (1 + n) (blocks_of blocks w) ↔ Arrives g places n w
  read_nodes n w below symbols = (
    λ reach. elim (only (1 + n) (blocks_of blocks w) reach) [
      | inl first ↦ absurd (omega (arith, first.0))
      | inr later ↦ elim later [
        | inl (m, here, within, arrived) ↦
            let same : m ≡ n = omega (arith, here) in
            arrived_word n w symbols (subst (λ i. Arrived i (blocks_of blocks w)) same arrived)
        | inr last ↦ absurd (omega (arith, last.0, below))
      ]
    ],
    arrives_reach n w,
  )

  marked : (n : ℕ) (w front : List ℕ) (k s : ℕ) → OfSymbols w → Arrived n front → k ≡ block_of blocks s → StandsAlone blocks s → blocks_of blocks w ≡ front ++ k ∷ []
      → (word : List ℕ) × Arrives g places n word × (w ≡ word ++ s ∷ [])
  marked n w front k s symbols (word, arrives, alone, blocked) letter lone whole =
      let together : blocks_of blocks (word ++ s ∷ []) ≡ blocks_of blocks w =
      map_push (block_of blocks) word s ∙ ap (λ l. l ++ block_of blocks s ∷ []) blocked ∙ ap (λ l. front ++ l ∷ []) (sym letter) ∙ sym whole in
      (word, arrives, sym (same_word blocks (word ++ s ∷ []) w (All-push (StandsAlone blocks) word s alone lone) symbols together))

  one_more : (s : ℕ) → s ∷ [] ≢ []
  one_more s e = cc

  stopped_word : (w : List ℕ) → OfSymbols w → Stopped (blocks_of blocks w) → Undelivered g level alphabet w
  stopped_word w symbols (n, front, k, arrived, stops, whole) = elim stops [
    | inl (drops, letter) ↦
        let (word, arrives, same) = marked n w front k (length alphabet) symbols arrived (letter ∙ lettered.drops) lettered.alone_drop whole in
        (n, word, length alphabet ∷ [], arrives, inr (inl (drops, refl)), one_more (length alphabet), same)
    | inr (cyclic, letter) ↦
        let (word, arrives, same) = marked n w front k (length alphabet + 1) symbols arrived (letter ∙ lettered.loops) lettered.alone_loop whole in
        (n, word, (length alphabet + 1) ∷ [], arrives, inr (inr (cyclic, refl)), one_more (length alphabet + 1), same)
  ]

  to_last : (n : ℕ) (front : List ℕ) (k s : ℕ) (w : List ℕ) → Arrives g places n front → HasStep r (1 + n) (Some k) (1 + count) → k ≡ block_of blocks s → w ≡ front ++ s ∷ []
      → Reach r (1 + count) (blocks_of blocks w)
  to_last n front k s w arrives step letter whole =
      subst (λ l. Reach r (1 + count) l) (ap (λ l. blocks_of blocks front ++ l ∷ []) letter ∙ sym (map_push (block_of blocks) front s) ∙ ap (blocks_of blocks) (sym whole))
      (reach_step r (1 + n) (1 + count) (Some k) (blocks_of blocks front) (arrives_reach n front arrives) step)

  undelivered_reach : (w : List ℕ) → Undelivered g level alphabet w → Reach r (1 + count) (blocks_of blocks w)
  undelivered_reach w (n, front, tail, arrives, ends, some, whole) =
      let below : n < count = arrives_node n front arrives in
      elim ends [
        | inl (delivers, none) ↦ absurd (some none)
        | inr rest ↦ elim rest [
          | inl (drops, is_drop) ↦
              to_last n front letters.drop_letter (length alphabet) w arrives
              (((built.edges.nodes n below).steps (Some letters.drop_letter) (1 + count)).1 (inr (inl (drops, refl, refl)))) lettered.drops (whole ∙ ap (λ l. front ++ l) is_drop)
          | inr (cyclic, is_loop) ↦
              to_last n front letters.loop_letter (length alphabet + 1) w arrives
              (((built.edges.nodes n below).steps (Some letters.loop_letter) (1 + count)).1 (inr (inr (cyclic, refl, refl)))) lettered.loops (whole ∙ ap (λ l. front ++ l) is_loop)
        ]
      ]

  pub read_end : (w : List ℕ) → OfSymbols w → Reach r (1 + count) (blocks_of blocks w) ↔ Undelivered g level alphabet w
  read_end w symbols = (
    λ reach. elim (only (1 + count) (blocks_of blocks w) reach) [
      | inl first ↦ absurd (omega (arith, first.0))
      | inr later ↦ elim later [
        | inl stands ↦ absurd (omega (arith, stands.1, stands.2))
        | inr last ↦ stopped_word w symbols last.1
      ]
    ],
    undelivered_reach w,
  )

  first_final : IsFinal r 0 → ⊥
  first_final final = let never : false ≡ true = sym (ap (λ l. get_or l 0 false) built.finals) ∙ final in cc

  node_final : (n : ℕ) → n < count → get_or r.finals (1 + n) false ≡ get_or g.delivered n false
  node_final n below =
      ap (λ l. get_or l (1 + n) false) built.finals ∙ get_or-append-add (false ∷ []) (g.delivered ++ true ∷ []) n false
      ∙ get_or_append_left g.delivered (true ∷ []) false n (omega (arith, below, is.delivered))

  last_final : IsFinal r (1 + count)
  last_final =
      ap (λ l. get_or l (1 + count) false) built.finals ∙ get_or-append-add (false ∷ []) (g.delivered ++ true ∷ []) count false
      ∙ get_or_at g.delivered true [] false count is.delivered

  pub read_language : (w : List ℕ) → OfSymbols w → Accepts r (blocks_of blocks w) ↔ Paths g level alphabet w
  read_language w symbols = (
    λ (q, reach, final). elim (only q (blocks_of blocks w) reach) [
      | inl first ↦ absurd (first_final (subst (λ i. IsFinal r i) first.0 final))
      | inr later ↦ elim later [
        | inl (n, here, below, arrived) ↦
            let delivers : IsDelivered g n = sym (node_final n below) ∙ subst (λ i. IsFinal r i) here final in
            (n, w, [], arrived_word n w symbols arrived, inl (delivers, refl), sym (append-nil w))
        | inr last ↦
            let (n, front, tail, arrives, ends, some, whole) = stopped_word w symbols last.1 in
            (n, front, tail, arrives, ends, whole)
      ]
    ],
    λ (n, front, tail, arrives, ends, whole). elim ends [
      | inl (delivers, none) ↦
          let same : front ≡ w = sym (append-nil front) ∙ ap (λ l. front ++ l) (sym none) ∙ sym whole in
          let below : n < count = arrives_node n front arrives in
          (1 + n, subst (λ l. Reach r (1 + n) (blocks_of blocks l)) same (arrives_reach n front arrives), node_final n below ∙ delivers)
      | inr rest ↦
          let some : tail ≢ [] = elim rest [
            | inl (drops, is_drop) ↦ λ none. one_more (length alphabet) (sym is_drop ∙ none)
            | inr (cyclic, is_loop) ↦ λ none. one_more (length alphabet + 1) (sym is_loop ∙ none)
          ] in
          (1 + count, undelivered_reach w (n, front, tail, arrives, inr rest, some, whole), last_final)
    ],
  )
