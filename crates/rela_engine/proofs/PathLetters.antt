-- The automaton of a graph's walks, and the symbols of its paths.
use Rattle.std.proofs.Common.{◌≡◌, ℕ, ◌+◌, ◌<◌, ◌≤◌, ◌↔◌, true, false, List, [], ◌∷◌, ◌++◌, length, get_or, map, refl, sym, ap, ◌∙◌, subst, inl, inr, arith}
use Rattle.std.specs.Prelude.{◌==◌, if◌then◌else◌}
use Rattle.std.specs.List.{All}
use Rattle.std.proofs.lemmas.List.{append-nil, get_or-map}
use Rattle.std.proofs.lemmas.List.Elements.{All-contains, All-nil, All-cons, All-push, All-map, All-head, All-tail, All-weaker}
use Rattle.rela_labels.specs.Partition.{block_count}
use Rattle.rela_names.specs.declared.level.Level.{Level}
use Rattle.rela_nfa.specs.Automaton.{Automaton, IsAutomaton, states}
use Rattle.rela_nfa.specs.Relabelling.{blocks_of}
use Rattle.rela_nfa.specs.Runs.{Accepts, Reach}
use Rattle.rela_rir.specs.Built.{PathStates}
use Rattle.rela_rir.specs.Places.{Arrivals}
use Rattle.rela_build.specs.Made.{Leads}
use Rattle.rela_names.specs.Alphabet.{path_symbols}
use Rattle.rela_graph.specs.Paths.{Paths, Undelivered, Arrives, locations, squeeze, squeeze_after}
use Rattle.rela_graph.specs.Topology.{HasEdge, IsTopology, JoinsNodes, Topology, symbol_at}
use Rattle.rela_graph.specs.Walk.{FollowsEdges, IsWalk}
use Rattle.rela_graph.specs.declared.node.Node.{Node}
use Rattle.rela_build.specs.Reading.{read_by}
use Rattle.rela_engine.specs.Reading.{Recognises}
use Rattle.rela_engine.proofs.LetterLaws.{accepted_letters, has_below, is_symbol, reached_letters, read_symbol, state_of_reach, unmapped}
use Rattle.rela_engine.proofs.LiftedWords.{no_word}

-- ---- words that an automaton accepts by the blocks of their symbols

pub read_word : (blocks w : List ℕ) → All (λ s. s < length blocks) w → map (read_by blocks) w ≡ blocks_of blocks w
read_word blocks [] each = refl
read_word blocks (s ∷ w) each =
    let first = read_symbol blocks s (All-head (λ s. s < length blocks) s w each) in
    let rest = read_word blocks w (All-tail (λ s. s < length blocks) s w each) in
    (λ i. first i ∷ rest i)

-- a word whose letters are letters is one of symbols
pub word_of_symbols : (blocks w : List ℕ) → All (λ k. k < block_count blocks) (map (read_by blocks) w) → All (λ s. s < length blocks) w
word_of_symbols blocks w letters =
    All-weaker (λ s. read_by blocks s < block_count blocks) (λ s. s < length blocks) (is_symbol blocks) w
    (unmapped (λ k. k < block_count blocks) (read_by blocks) w letters)

pub recognises : (blocks : List ℕ) (n : ℕ) (words : List ℕ → Type 0) (a : Automaton) → IsAutomaton a → a.letters ≡ block_count blocks → n ≤ length blocks
    → ((w : List ℕ) → All (λ s. s < length blocks) w → Accepts a (blocks_of blocks w) ↔ words w)
    → ((w : List ℕ) → words w → All (λ s. s < n) w) → Recognises blocks words a
recognises blocks n words a ok letters few language only = record {
  letters = letters;
  language = λ w. (
    λ accepted.
        let symbols = word_of_symbols blocks w (subst (λ m. All (λ k. k < m) (map (read_by blocks) w)) letters (accepted_letters a ok (map (read_by blocks) w) accepted)) in
        (language w symbols).0 (subst (Accepts a) (read_word blocks w symbols) accepted),
    λ is_word.
        let below = only w is_word in
        let symbols : All (λ s. s < length blocks) w = All-weaker (λ s. s < n) (λ s. s < length blocks) (λ s less. omega (arith, less, few)) w below in
        subst (Accepts a) (sym (read_word blocks w symbols)) ((language w symbols).1 is_word),
  );
}

pub recognises_alike : (blocks : List ℕ) (words : List ℕ → Type 0) (a b : Automaton) → b.letters ≡ a.letters → ((w : List ℕ) → Accepts b w ↔ Accepts a w)
    → Recognises blocks words a → Recognises blocks words b
recognises_alike blocks words a b letters alike is = record {
  letters = letters ∙ is.letters;
  language = λ w. (
    λ accepted. (is.language w).0 ((alike (map (read_by blocks) w)).0 accepted),
    λ is_word. (alike (map (read_by blocks) w)).1 ((is.language w).1 is_word),
  );
}

-- ---- the states of a graph's automaton

-- the words that lead to a state by the blocks of their symbols are those of X, where all words of X are of symbols
led : (blocks : List ℕ) (a : Automaton) (q : ℕ) (X : List ℕ → Type 0) → IsAutomaton a → a.letters ≡ block_count blocks
    → ((w : List ℕ) → X w → All (λ s. s < length blocks) w)
    → ((w : List ℕ) → All (λ s. s < length blocks) w → Reach a q (blocks_of blocks w) ↔ X w) → (w : List ℕ) → Leads blocks a q w ↔ X w
led blocks a q X ok letters only reach w = (
  λ leads.
      let symbols = word_of_symbols blocks w (subst (λ m. All (λ k. k < m) (map (read_by blocks) w)) letters (reached_letters a ok q (map (read_by blocks) w) leads)) in
      (reach w symbols).0 (subst (Reach a q) (read_word blocks w symbols) leads),
  λ is.
      let symbols = only w is in
      subst (Reach a q) (sym (read_word blocks w symbols)) ((reach w symbols).1 is),
)

pub path_states : (blocks : List ℕ) (n : ℕ) (arrivals : Arrivals) (a : Automaton) → IsAutomaton a → a.letters ≡ block_count blocks → states a ≡ n + 2
    → ((k : ℕ) (w : List ℕ) → arrivals.at_node k w → All (λ s. s < length blocks) w) → ((w : List ℕ) → arrivals.at_end w → All (λ s. s < length blocks) w)
    → ((w : List ℕ) → Reach a 0 w ↔ (w ≡ []))
    → ((k : ℕ) (w : List ℕ) → k < n → All (λ s. s < length blocks) w → Reach a (1 + k) (blocks_of blocks w) ↔ arrivals.at_node k w)
    → ((w : List ℕ) → All (λ s. s < length blocks) w → Reach a (1 + n) (blocks_of blocks w) ↔ arrivals.at_end w)
    → PathStates n arrivals (Leads blocks a)
path_states blocks n arrivals a ok letters count node_symbols end_symbols begin nodes end = record {
  begin = λ w. (
    λ leads. no_word (read_by blocks) w (sym ((begin (map (read_by blocks) w)).0 leads)),
    λ e. (begin (map (read_by blocks) w)).1 (ap (map (read_by blocks)) e),
  );
  nodes = λ k w within. led blocks a (1 + k) (arrivals.at_node k) ok letters (node_symbols k) (λ v. nodes k v within) w;
  end = λ w. led blocks a (1 + n) arrivals.at_end ok letters end_symbols end w;
  count = λ q w leads. let below = state_of_reach a ok q (map (read_by blocks) w) leads in omega (arith, below, count);
}

-- ---- the symbols of paths

module _ (P : ℕ → Type 0) where
  squeezed_after : (x : ℕ) (xs : List ℕ) → All P xs → All P (squeeze_after x xs)
  squeezed_after x [] each = All-nil P
  squeezed_after x (y ∷ ys) each =
      let rest : All P (squeeze_after y ys) = squeezed_after y ys (All-tail P y ys each) in
      elim (x == y) as (λ b. All P (if b then squeeze_after y ys else y ∷ squeeze_after y ys)) [
        | true ↦ rest
        | false ↦ All-cons P y (squeeze_after y ys) (All-head P y ys each) rest
      ]

  squeezed : (xs : List ℕ) → All P xs → All P (squeeze xs)
  squeezed [] each = All-nil P
  squeezed (x ∷ xs) each = All-cons P x (squeeze_after x xs) (All-head P x xs each) (squeezed_after x xs (All-tail P x xs each))

module _ (g : Topology) (is : IsTopology g) where
  abbrev IsNode : ℕ → Type 0
  IsNode n = n < length g.nodes

  -- an edge leads to a node
  edge_node : (a b : ℕ) → HasEdge g a b → IsNode b
  edge_node a b edge = (All-contains (JoinsNodes (length g.nodes)) g.edges (record { a = a; b = b }) is.joins edge).1

  follow_nodes : (a : ℕ) (rest : List ℕ) → IsNode a → FollowsEdges g (a ∷ rest) → All IsNode (a ∷ rest)
  follow_nodes a [] first follows = All-cons IsNode a [] first (All-nil IsNode)
  follow_nodes a (b ∷ rest) first follows = All-cons IsNode a (b ∷ rest) first (follow_nodes b rest (edge_node a b follows.0) follows.1)

  pub walk_nodes : (walk : List ℕ) → IsWalk g walk → All IsNode walk
  walk_nodes [] walk = absurd walk
  walk_nodes (a ∷ rest) walk = follow_nodes a rest (let flagged = has_below g.starts a walk.0 in omega (arith, flagged, is.starts)) walk.1

  module _ (P : ℕ → Type 0) (level : Level) (each : All (λ node. P (symbol_at level node)) g.nodes) where
    nowhere : Node
    nowhere = record { interface = 0; device = 0; group = 0 }

    located : (n : ℕ) → n < length g.nodes → P (get_or (locations g level) n 0)
    located n within = subst P (sym (get_or-map (symbol_at level) g.nodes n nowhere 0 within)) (each n nowhere within)

    pub arrives_each : (n : ℕ) (word : List ℕ) → Arrives g (locations g level) n word → All P word
    arrives_each n word (before, walk, is_base) =
        let whole = before ++ n ∷ [] in
        subst (λ l. All P l) is_base
        (squeezed P (map (λ m. get_or (locations g level) m 0) whole)
        (All-map P (λ m. get_or (locations g level) m 0) whole
        (λ k d within. located (get_or whole k d) (walk_nodes whole walk k d within))))

    -- what holds of the location of each node, of `drop` and of `loop` holds of each symbol of a path
    pub path_each : (alphabet : List (List ℕ)) → P (length alphabet) → P (length alphabet + 1) → (word : List ℕ) → Paths g level alphabet word → All P word
    path_each alphabet drops loops word (n, front, tail, arrives, ends, whole) =
        let symbols = arrives_each n front arrives in
        subst (λ l. All P l) (sym whole)
        (elim ends [
          | inl delivers ↦ subst (λ e. All P (front ++ e)) (sym delivers.1) (subst (λ l. All P l) (sym (append-nil front)) symbols)
          | inr rest ↦ elim rest [
            | inl drop ↦ subst (λ e. All P (front ++ e)) (sym drop.1) (All-push P front (length alphabet) symbols drops)
            | inr loop ↦ subst (λ e. All P (front ++ e)) (sym loop.1) (All-push P front (length alphabet + 1) symbols loops)
          ]
        ])

-- each symbol of what arrives at a node, and of a path that does not deliver, is a symbol of the partition
module _ (blocks : List ℕ) (g : Topology) (is : IsTopology g) (level : Level) (alphabet : List (List ℕ)) (few : path_symbols alphabet ≤ length blocks)
    (placed : All (λ node. symbol_at level node < length alphabet) g.nodes) where
  located_symbols : All (λ node. symbol_at level node < length blocks) g.nodes
  located_symbols k d within = let below = placed k d within in omega (arith, below, few)

  pub arrival_symbols : (n : ℕ) (w : List ℕ) → Arrives g (locations g level) n w → All (λ s. s < length blocks) w
  arrival_symbols = arrives_each g is (λ s. s < length blocks) level located_symbols

  pub end_symbols : (w : List ℕ) → Undelivered g level alphabet w → All (λ s. s < length blocks) w
  end_symbols w (n, front, ending, arrives, ends, some, whole) =
      path_each g is (λ s. s < length blocks) level located_symbols alphabet (omega (arith, few)) (omega (arith, few)) w (n, front, ending, arrives, ends, whole)
