-- The automata of a flow's paths, once each symbol is read as its block.
use Rattle.std.proofs.Common.{◌≡◌, ℕ, ◌<◌, ◌≤◌, ◌↔◌, List, [], ◌∷◌, length, map, refl, sym, ap, ◌∙◌, subst, arith}
use Rattle.std.specs.List.{All}
use Rattle.std.specs.Option.{ForSome}
use Rattle.std.specs.Prelude.{Option, Result, Ok, Err, IfOk}
use Rattle.std.proofs.lemmas.List.Elements.{All-head, All-tail}
use Rattle.rela_build.specs.Reading.{read_by}
use Rattle.rela_graph.specs.Alone.{StandsAlone}
use Rattle.rela_graph.specs.Paths.{Paths}
use Rattle.rela_graph.specs.Topology.{Topology, IsTopology, symbol_at}
use Rattle.rela_labels.specs.Partition.{block_count}
use Rattle.rela_letter_nfa.specs.LetterAutomaton.{LetterAutomaton}
use Rattle.rela_letter_nfa.specs.Runs.{Accepts}
use Rattle.rela_letter_paths.specs.Letters.{HasLettersBelow}
use Rattle.rela_names.specs.Alphabet.{path_symbols}
use Rattle.rela_names.specs.declared.level.Level.{Level}
use Rattle.rela_nfa.specs.Relabelling.{blocks_of}
use Rattle.rela_engine.specs.FlowLetters.{AcceptsPaths}
use Rattle.rela_engine.specs.LetterImages.{IsReadOver}
use Rattle.rela_engine.specs.Seen.{AreFiner}
use Rattle.rela_engine.proofs.LetterLaws.{is_symbol, read_below, read_symbol}
use Rattle.rela_engine.proofs.MetOn.{inputs_below}
use Rattle.rela_engine.proofs.PathLetters.{path_each, read_word}

-- a symbol with the letter of one that stands alone is that one
alone_symbol : (blocks : List ℕ) (s t : ℕ) → s < length blocks → StandsAlone blocks s → read_by blocks s ≡ read_by blocks t → s ≡ t
alone_symbol blocks s t below alone same =
    let letter : read_by blocks t < block_count blocks = omega (arith, read_below blocks s below, same) in
    let within = is_symbol blocks t letter in
    alone t within (sym (read_symbol blocks s below) ∙ same ∙ read_symbol blocks t within)

alone_words : (blocks u w : List ℕ) → All (λ s. s < length blocks) u → All (StandsAlone blocks) u → map (read_by blocks) u ≡ map (read_by blocks) w → u ≡ w
alone_words blocks [] [] below alone same = refl
alone_words blocks [] (t ∷ w) below alone same = absurd (omega (arith, ap length same))
alone_words blocks (s ∷ u) [] below alone same = absurd (omega (arith, ap length same))
alone_words blocks (s ∷ u) (t ∷ w) below alone same =
    let letter : read_by blocks s ≡ read_by blocks t = let all = same in cc in
    let letters : map (read_by blocks) u ≡ map (read_by blocks) w = let all = same in cc in
    let first = alone_symbol blocks s t (All-head (λ r. r < length blocks) s u below) (All-head (StandsAlone blocks) s u alone) letter in
    let rest = alone_words blocks u w (All-tail (λ r. r < length blocks) s u below) (All-tail (StandsAlone blocks) s u alone) letters in
    (λ i. first i ∷ rest i)

-- what reads the paths of a graph, whose symbols stand alone, by their blocks
pub read_over : (coarse blocks : List ℕ) (g : Topology) (level : Level) (names : List (List ℕ)) (paths made : LetterAutomaton) → IsTopology g
    → path_symbols names ≤ length blocks → All (λ node. symbol_at level node < length names) g.nodes → AreFiner coarse (length names) level g g blocks
    → AcceptsPaths names g level paths
    → ((v : List ℕ) → Accepts made v ↔ ((u : List ℕ) × Accepts paths u × (blocks_of blocks u ≡ v)))
    → IsReadOver blocks (Paths g level names) made
read_over coarse blocks g level names paths made is few placed finer are language =
    let symbols : (w : List ℕ) → Paths g level names w → All (λ s. s < length blocks) w =
    path_each g is (λ s. s < length blocks) level (λ k d within. let below = placed k d within in omega (arith, below, few)) names (omega (arith, few)) (omega (arith, few)) in
    let alone : (w : List ℕ) → Paths g level names w → All (StandsAlone blocks) w =
    path_each g is (StandsAlone blocks) level finer.before names finer.drops finer.loops in
    record {
      reads = λ w. (
        λ accepted.
            let found = (language (map (read_by blocks) w)).0 accepted in
            let path = (are.language found.0).0 found.1 in
            let below = symbols found.0 path in
            subst (Paths g level names) (alone_words blocks found.0 w below (alone found.0 path) (read_word blocks found.0 below ∙ found.2)) path,
        λ path. (language (map (read_by blocks) w)).1 (w, (are.language w).1 path, sym (read_word blocks w (symbols w path))),
      );
      below = λ v accepted.
          let found = (language v).0 accepted in
          subst (All (λ k. k < block_count blocks)) found.2 (inputs_below blocks found.0 (symbols found.0 ((are.language found.0).0 found.1)));
    }

-- an automaton of the paths of a graph, where there is one
pub accepts_paths : {E : Type 0} (names : List (List ℕ)) (g : Topology) (level : Level) (r : Result (Option LetterAutomaton) E)
    → IfOk r (λ found. ForSome found (λ nfa. (w : List ℕ) → Accepts nfa w ↔ Paths g level names w))
    → IfOk r (λ found. ForSome found (HasLettersBelow (path_symbols names))) → IfOk r (λ found. ForSome found (AcceptsPaths names g level))
accepts_paths names g level (Ok found) language letters = λ nfa is. record { language = language nfa is; letters = letters nfa is }
accepts_paths names g level (Err e) language letters = tt
