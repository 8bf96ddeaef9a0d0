-- The edges of each state, as they are listed.
use Rattle.std.proofs.Common.{◌≡◌, ℕ, zero, suc, ◌+◌, ◌<◌, ◌≤◌, ◌⊎◌, ◌↔◌, Bool, true, false, IsTrue, List, [], ◌∷◌, ◌++◌, length, get_or, map, Option, Some, sym, ap, ◌∙◌, subst, inl, inr, arith}
use Rattle.std.specs.List.{All, Contains}
use Rattle.std.proofs.lemmas.Bool.{cases_lt, cases_eq}
use Rattle.std.proofs.lemmas.List.{get_or_append_left, get_or_at, get_or_default, length_push}
use Rattle.std.proofs.lemmas.List.Elements.{All-nil}
use Rattle.rela_nfa.specs.Automaton.{Automaton, Move, IsMove, IsAutomaton, states}
use Rattle.rela_graph.specs.Lettering.{AreLetters, letter_at, read_between, by_letter, only_if, link_move}
use Rattle.rela_graph.specs.Topology.{Topology, IsTopology, HasEdge, IsStart, IsEdgeFrom}
use Rattle.rela_graph.specs.Unrolled.{LeadOn, Begins, GoesOn, IsUnrolled}
use Rattle.rela_graph.specs.Walk.{IsCyclic, IsDropNode}
use Rattle.rela_graph.specs.declared.letters.Letters.{Letters}
use Rattle.rela_graph.specs.declared.node.Link.{Link}
use Rattle.rela_graph.proofs.Flagged.{flag_within}
use Rattle.rela_graph.proofs.Lettered.{links_lead, lead_same, lead_none, lead_if}

-- a node's letter is one
pub letter_below : (g : Topology) (letters : Letters) → AreLetters g letters → (n : ℕ) → n < length g.nodes → letter_at letters n < letters.count
letter_below g letters are n below = are.each n 0 (omega (arith, are.nodes))

-- the edges of a node's state
module _ (g : Topology) (letters : Letters) (are : AreLetters g letters) (n : ℕ) (out : List Link)
    (each : All (IsEdgeFrom g n) out) (all : (b : ℕ) → HasEdge g n b → Contains out (record { a = n; b = b })) where
  abbrev size : ℕ
  size = length g.nodes + 2

  abbrev Along : Option ℕ → ℕ → Type 0
  Along letter q = (m : ℕ) × HasEdge g n m × (letter ≡ read_between letters n m) × (q ≡ 1 + m)

  along_lead : LeadOn letters.count size (map (link_move letters) out) Along
  along_lead =
      lead_same letters.count size (map (link_move letters) out)
      (λ letter q. (link : Link) × Contains out link × (letter ≡ read_between letters link.a link.b) × (q ≡ 1 + link.b)) Along
      (λ letter q. (
        λ (link, among, reads, leads).
            let at = from_here link among in
            (link.b, at.2, subst (λ a. letter ≡ read_between letters a link.b) at.0 reads, leads),
        λ (m, edge, reads, leads). (record { a = n; b = m }, all m edge, reads, leads),
      ))
      (links_lead letters out size (λ k d within. let at = each k d within in (letter_below g letters are _ at.1, omega (arith, at.1))))
    where
      from_here : (link : Link) → Contains out link → IsEdgeFrom g n link
      from_here link (k, within, at) = subst (λ l. IsEdgeFrom g n l) at (each k link within)

  -- `drop` is added where the node drops, and then `loop` where it is cyclic
  pub node_leads : (drops cyclic : Bool) → IsTrue drops ↔ IsDropNode g n → IsTrue cyclic ↔ IsCyclic g n → (last : ℕ) → last ≡ 1 + length g.nodes → (first more moves : List Move)
      → first ≡ map (link_move letters) out → more ≡ first ++ only_if drops (by_letter letters.count letters.drop_letter last)
      → moves ≡ more ++ only_if cyclic (by_letter letters.count letters.loop_letter last) → LeadOn letters.count size moves (GoesOn g letters n)
  node_leads drops cyclic told_drops told_cyclic last last_is first more moves first_is more_is moves_is =
      let Dropped : Option ℕ → ℕ → Type 0 = λ letter q. IsTrue drops × (letter ≡ Some letters.drop_letter) × (q ≡ last) in
      let Looped : Option ℕ → ℕ → Type 0 = λ letter q. IsTrue cyclic × (letter ≡ Some letters.loop_letter) × (q ≡ last) in
      let along : LeadOn letters.count size first Along = subst (λ l. LeadOn letters.count size l Along) (sym first_is) along_lead in
      let dropped : LeadOn letters.count size more (λ letter q. Along letter q ⊎ Dropped letter q) =
      subst (λ l. LeadOn letters.count size l (λ letter q. Along letter q ⊎ Dropped letter q)) (sym more_is)
      (lead_if letters.count size first Along along letters.drop_letter last are.drops (omega (arith, last_is)) drops) in
      let looped : LeadOn letters.count size moves (λ letter q. (Along letter q ⊎ Dropped letter q) ⊎ Looped letter q) =
      subst (λ l. LeadOn letters.count size l (λ letter q. (Along letter q ⊎ Dropped letter q) ⊎ Looped letter q)) (sym moves_is)
      (lead_if letters.count size more (λ letter q. Along letter q ⊎ Dropped letter q) dropped letters.loop_letter last are.loops (omega (arith, last_is)) cyclic) in
      lead_same letters.count size moves (λ letter q. (Along letter q ⊎ Dropped letter q) ⊎ Looped letter q) (GoesOn g letters n)
      (λ letter q. (
        λ holds. elim holds [
          | inl first ↦ elim first [ inl a ↦ inl a | inr d ↦ inr (inl (told_drops.0 d.0, d.1, d.2 ∙ last_is)) ]
          | inr l ↦ inr (inr (told_cyclic.0 l.0, l.1, l.2 ∙ last_is))
        ],
        λ holds. elim holds [
          | inl a ↦ inl (inl a)
          | inr rest ↦ elim rest [ inl d ↦ inl (inr (told_drops.1 d.0, d.1, d.2 ∙ sym last_is)) | inr l ↦ inr (told_cyclic.1 l.0, l.1, l.2 ∙ sym last_is) ]
        ],
      )) looped

-- to a start before i, by its letter
abbrev pub BeginsBelow : Topology → Letters → ℕ → Option ℕ → ℕ → Type 0
BeginsBelow g letters i letter q = (n : ℕ) × (n < i) × IsStart g n × (letter ≡ Some (letter_at letters n)) × (q ≡ 1 + n)

-- the edges to the starts
module _ (g : Topology) (letters : Letters) (are : AreLetters g letters) where
  abbrev Before : ℕ → Option ℕ → ℕ → Type 0
  Before = BeginsBelow g letters

  pub begin_none : (moves : List Move) → moves ≡ [] → LeadOn letters.count (length g.nodes + 2) moves (Before 0)
  begin_none moves is =
      subst (λ l. LeadOn letters.count (length g.nodes + 2) l (Before 0)) (sym is)
      (lead_none letters.count (length g.nodes + 2) (Before 0) (λ letter q holds. omega (arith, holds.1)))

  pub begin_more : (i : ℕ) (is_start : Bool) (letter : ℕ) (old new : List Move) → i < length g.nodes → IsTrue is_start ↔ IsStart g i → letter ≡ letter_at letters i
      → LeadOn letters.count (length g.nodes + 2) old (Before i) → new ≡ old ++ only_if is_start (by_letter letters.count letter (1 + i))
      → LeadOn letters.count (length g.nodes + 2) new (Before (i + 1))
  begin_more i is_start letter old new within told letter_is leads is =
      let New : Option ℕ → ℕ → Type 0 = λ letter q. IsTrue is_start × (letter ≡ Some (letter_at letters i)) × (q ≡ 1 + i) in
      subst (λ l. LeadOn letters.count (length g.nodes + 2) l (Before (i + 1))) (sym (is ∙ ap (λ k. old ++ only_if is_start (by_letter letters.count k (1 + i))) letter_is))
      (lead_same letters.count (length g.nodes + 2) (old ++ only_if is_start (by_letter letters.count (letter_at letters i) (1 + i)))
      (λ letter q. Before i letter q ⊎ New letter q) (Before (i + 1))
      (λ letter q. (
        λ holds. elim holds [
          | inl old ↦ (old.0, omega (arith, old.1), old.2, old.3, old.4)
          | inr new ↦ (i, omega arith, told.0 new.0, new.1, new.2)
        ],
        λ (n, below, start, reads, to). elim (cases_eq n i) [
          | inl same ↦ inr (
            told.1 (subst (λ m. IsStart g m) same start),
            reads ∙ ap (λ m. Some (letter_at letters m)) same,
            to ∙ ap (λ m. 1 + m) same,
          )
          | inr apart ↦ inl (n, omega arith, start, reads, to)
        ],
      ))
      (lead_if letters.count (length g.nodes + 2) old (Before i) leads (letter_at letters i) (1 + i) (letter_below g letters are i within) (omega arith) is_start))

  pub begin_all : IsTopology g → (i : ℕ) → length g.nodes ≤ i → (moves : List Move) → LeadOn letters.count (length g.nodes + 2) moves (Before i)
      → LeadOn letters.count (length g.nodes + 2) moves (Begins g letters)
  begin_all is i over moves leads =
      lead_same letters.count (length g.nodes + 2) moves (Before i) (Begins g letters)
      (λ letter q. (
        λ (n, below, start, reads, to). (n, start, reads, to),
        λ (n, start, reads, to). (n, (let within = flag_within g.starts n start in omega (arith, within, is.starts)), start, reads, to),
      )) leads

-- the lists of the first state and of the first n nodes
pub record SoFar (g : Topology) (letters : Letters) (edges : List (List Move)) (n : ℕ) : Type 0 where
  pub len : length edges ≡ 1 + n
  pub first : LeadOn letters.count (length g.nodes + 2) (get_or edges 0 []) (Begins g letters)
  pub nodes : (k : ℕ) → k < n → LeadOn letters.count (length g.nodes + 2) (get_or edges (1 + k) []) (GoesOn g letters k)

module _ (g : Topology) (letters : Letters) where
  pub first_list : (old edges : List (List Move)) (moves : List Move) → edges ≡ old ++ moves ∷ [] → old ≡ []
      → LeadOn letters.count (length g.nodes + 2) moves (Begins g letters) → SoFar g letters edges 0
  first_list old edges moves pushed none leads =
      let is : edges ≡ moves ∷ [] = pushed ∙ ap (λ l. l ++ moves ∷ []) none in
      record {
        len = ap length is;
        first = subst (λ l. LeadOn letters.count (length g.nodes + 2) l (Begins g letters)) (sym (ap (λ l. get_or l 0 []) is)) leads;
        nodes = λ k none. absurd (omega (arith, none));
      }

  pub one_list : (old new : List (List Move)) (moves : List Move) (n : ℕ) → SoFar g letters old n → new ≡ old ++ moves ∷ []
      → LeadOn letters.count (length g.nodes + 2) moves (GoesOn g letters n) → SoFar g letters new (n + 1)
  one_list old new moves n far is leads = record {
    len = omega (arith, ap length is, length_push old moves, far.len);
    first =
        subst (λ l. LeadOn letters.count (length g.nodes + 2) l (Begins g letters))
        (sym (ap (λ l. get_or l 0 []) is ∙ get_or_append_left old (moves ∷ []) [] 0 (omega (arith, far.len)))) far.first;
    nodes = λ k below. elim (cases_eq k n) [
      | inl same ↦
          subst (λ l. LeadOn letters.count (length g.nodes + 2) l (GoesOn g letters k))
          (sym (ap (λ l. get_or l (1 + k) []) is ∙ get_or_at old moves [] [] (1 + k) (omega (arith, far.len, same))))
          (subst (λ m. LeadOn letters.count (length g.nodes + 2) moves (GoesOn g letters m)) (sym same) leads)
      | inr apart ↦
          subst (λ l. LeadOn letters.count (length g.nodes + 2) l (GoesOn g letters k))
          (sym (ap (λ l. get_or l (1 + k) []) is ∙ get_or_append_left old (moves ∷ []) [] (1 + k) (omega (arith, far.len)))) (far.nodes k (omega arith))
    ];
  }

  pub all_lists : (old new : List (List Move)) (moves : List Move) (n : ℕ) → n ≡ length g.nodes → SoFar g letters old n → new ≡ old ++ moves ∷ [] → moves ≡ []
      → IsUnrolled g letters new
  all_lists old new moves n whole far pushed none =
      let is : new ≡ old ++ [] ∷ [] = pushed ∙ ap (λ m. old ++ m ∷ []) none in
      record {
        len = omega (arith, ap length is, length_push old [], far.len, whole);
        first =
            subst (λ l. LeadOn letters.count (length g.nodes + 2) l (Begins g letters))
            (sym (ap (λ l. get_or l 0 []) is ∙ get_or_append_left old ([] ∷ []) [] 0 (omega (arith, far.len)))) far.first;
        nodes = λ k below.
            subst (λ l. LeadOn letters.count (length g.nodes + 2) l (GoesOn g letters k))
            (sym (ap (λ l. get_or l (1 + k) []) is ∙ get_or_append_left old ([] ∷ []) [] (1 + k) (omega (arith, far.len, whole)))) (far.nodes k (omega (arith, whole)));
        last = ap (λ l. get_or l (1 + length g.nodes) []) is ∙ get_or_at old [] [] [] (1 + length g.nodes) (omega (arith, far.len, whole));
      }

-- the automaton of these edges, in which words are accepted at nodes that deliver and at the last state
pub record IsReader (g : Topology) (letters : Letters) (r : Automaton) : Type 0 where
  pub count : r.letters ≡ letters.count
  pub start : r.start ≡ 0
  pub finals : r.finals ≡ false ∷ (g.delivered ++ true ∷ [])
  pub edges : IsUnrolled g letters r.edges

module _ (g : Topology) (letters : Letters) (is : IsTopology g) (r : Automaton) (built : IsReader g letters r) where
  pub reader_states : states r ≡ length g.nodes + 2
  reader_states = omega (arith, ap length built.finals, length_push g.delivered true, is.delivered)

  list_sized : (k : ℕ) → k < length r.edges → All (IsMove letters.count (length g.nodes + 2)) (get_or r.edges k [])
  list_sized zero within = built.edges.first.sized
  list_sized (suc k) within = elim (cases_lt k (length g.nodes)) [
    | inl below ↦
        let place : 1 + k ≡ suc k = omega arith in
        subst (λ i. All (IsMove letters.count (length g.nodes + 2)) (get_or r.edges i [])) place (built.edges.nodes k below).sized
    | inr past ↦
        let place : 1 + length g.nodes ≡ suc k = omega (arith, built.edges.len) in
        subst (λ i. All (IsMove letters.count (length g.nodes + 2)) (get_or r.edges i [])) place
        (subst (λ l. All (IsMove letters.count (length g.nodes + 2)) l) (sym built.edges.last) (All-nil (IsMove letters.count (length g.nodes + 2))))
  ]

  pub reader_ok : IsAutomaton r
  reader_ok = record {
    each = omega (arith, built.edges.len, reader_states);
    starts = omega (arith, built.start, reader_states);
    moves =
        subst (λ n. All (All (IsMove n (length r.finals))) r.edges) (sym built.count)
        (subst (λ n. All (All (IsMove letters.count n)) r.edges) (sym reader_states)
        (λ k d within.
        subst (λ l. All (IsMove letters.count (length g.nodes + 2)) l) (get_or_default r.edges k [] d within) (list_sized k within)));
  }
