-- The automaton of a graph's paths, as terms are built of it.
use Rattle.std.proofs.Common.{◌≡◌, ℕ, ◌+◌, ◌<◌, ◌↔◌, List, [], ◌∷◌, ◌++◌, length, refl, subst, arith}
use Rattle.std.specs.List.{All}
use Rattle.std.proofs.lemmas.List.{get_or_at, length_push}
use Rattle.rela_build.specs.Made.{IsBuilt, Leads}
use Rattle.rela_graph.specs.Paths.{Paths, Arrives, Undelivered, locations}
use Rattle.rela_graph.specs.Topology.{Topology, IsTopology}
use Rattle.rela_labels.specs.Partition.{block_count}
use Rattle.rela_names.specs.Alphabet.{path_symbols}
use Rattle.rela_names.specs.declared.level.Level.{Level}
use Rattle.rela_nfa.specs.Automaton.{Automaton, IsAutomaton, states}
use Rattle.rela_nfa.specs.Relabelling.{blocks_of}
use Rattle.rela_nfa.specs.Runs.{Accepts, Reach}
use Rattle.rela_rir.specs.Built.{PathStates}
use Rattle.rela_rir.specs.BuiltTerms.{PathPlaces}
use Rattle.rela_rir.specs.Places.{NoParts, PartsApart, PathSetPlaces}
use Rattle.rela_rir.specs.Tables.{IsExact}
use Rattle.rela_blocks.specs.GraphPaths.{graph_paths}
use Rattle.rela_blocks.specs.Readable.{IsGraphReadable}
use Rattle.rela_blocks.specs.Scenes.{arrivals_of}
use Rattle.rela_blocks.proofs.PathLetters.{language_of, path_states, arrival_symbols, end_symbols, walk_nodes}

-- what arrives at a node arrives at one of the graph
arrives_at_node : (g : Topology) → IsTopology g → (level : Level) (n : ℕ) (w : List ℕ) → Arrives g (locations g level) n w → n < length g.nodes
arrives_at_node g is level n w (before, walk, is_base) =
    let within : length before < length (before ++ n ∷ []) = omega (arith, length_push before n) in
    subst (λ (k : ℕ). k < length g.nodes) (get_or_at before n [] 0 (length before) refl)
    (walk_nodes g is (before ++ n ∷ []) walk (length before) 0 within)

pub built : PathPlaces graph_paths → (blocks : List ℕ) (g : Topology) → IsTopology g → (level : Level) (names : List (List ℕ)) (a : Automaton)
    → IsGraphReadable level names g blocks → IsAutomaton a → a.letters ≡ block_count blocks → states a ≡ length g.nodes + 2
    → ((w : List ℕ) → Reach a 0 w ↔ (w ≡ []))
    → ((k : ℕ) (w : List ℕ) → k < length g.nodes → All (λ s. s < length blocks) w → Reach a (1 + k) (blocks_of blocks w) ↔ Arrives g (locations g level) k w)
    → ((w : List ℕ) → All (λ s. s < length blocks) w → Reach a (1 + length g.nodes) (blocks_of blocks w) ↔ Undelivered g level names w)
    → ((w : List ℕ) → All (λ s. s < length blocks) w → Accepts a (blocks_of blocks w) ↔ Paths g level names w)
    → ((w : List ℕ) → Paths g level names w → All (λ s. s < path_symbols names) w)
    → IsBuilt (Unit {0}) blocks (Paths g level names) (PathSetPlaces (arrivals_of level names g)) (PartsApart NoParts NoParts) a
built placed blocks g is level names a readable ok letters count begin nodes end language only =
    let n = length g.nodes in
    let reads = language_of blocks (path_symbols names) (Paths g level names) a ok letters readable.symbols language only in
    let are : PathStates n (arrivals_of level names g) (Leads blocks a) =
    path_states blocks n (arrivals_of level names g) a ok letters count
    (arrival_symbols blocks g is level names readable.symbols readable.placed) (end_symbols blocks g is level names readable.symbols readable.placed) begin nodes end in
    let places = placed (record { level = level; names = names; graph = g }) n (blocks, a) are in
    record {
      automaton = ok;
      letters = letters;
      language = reads;
      table = places.table;
      placed = places.is_table;
      exact = λ e. subst (λ (k : ℕ). IsExact k (Leads blocks a) (PathSetPlaces (arrivals_of level names g)) places.table) (omega (arith, count))
          (places.exact (arrives_at_node g is level));
    }
