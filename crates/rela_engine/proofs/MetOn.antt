-- Flows whose graphs look the same meet a check where its two relations have the same pairs for their paths.
use Rattle.std.proofs.Common.{◌≡◌, ℕ, ◌+◌, ◌<◌, ◌↔◌, Bool, true, false, List, [], ◌∷◌, length, get_or, map, inl, inr, sym, ap, ◌∙◌, subst, arith}
use Rattle.std.specs.List.{All, Contains}
use Rattle.std.proofs.lemmas.List.{get_or-map, length-map}
use Rattle.std.proofs.lemmas.List.Elements.{All-append, All-cons, All-map, All-nil, Contains-append_left, Contains-append_right, Contains-get_or}
use Rattle.rela_build.specs.Reading.{read_by}
use Rattle.rela_graph.specs.Paths.{Paths}
use Rattle.rela_graph.specs.Topology.{Topology, IsTopology, symbol_at}
use Rattle.rela_graph.specs.declared.node.Node.{Node}
use Rattle.rela_labels.specs.Partition.{block_count, block_of}
use Rattle.rela_names.specs.declared.level.Level.{Level}
use Rattle.rela_restriction.specs.Excess.{IsReadAs}
use Rattle.rela_rir.specs.Words.{WordSet, Relation, ImageOf}
use Rattle.rela_translate.specs.Checked.{Checked}
use Rattle.rela_translate.specs.Verdict.{AreMet, Meets}
use Rattle.rela_translate.specs.Zones.{Before, After}
use Rattle.rela_blocks.specs.Blocks.{AreBlocks}
use Rattle.rela_engine.specs.Differing.{AreDifferences, Differences, HaveNoneOn, SamePairsOn, path_symbols_of}
use Rattle.rela_engine.proofs.LetterLaws.{read_below, read_symbol}
use Rattle.rela_engine.proofs.NodesApart.{one_of}
use Rattle.rela_engine.proofs.PathLetters.{path_each}

-- ---- the pairs that two relations share

-- where nothing of either is beyond the other, they have the same pairs
pub same_where_none : (blocks inputs : List ℕ) (R S : Relation) (d : Differences) → AreDifferences blocks R S d → HaveNoneOn inputs d → SamePairsOn blocks inputs R S
same_where_none blocks inputs R S d are none u v reads = (
  λ r. elim (are.lost u v r) [ inl s ↦ s | inr beyond ↦ absurd ((none (read_by blocks) u v reads).0 beyond) ],
  λ s. elim (are.added u v s) [ inl r ↦ r | inr beyond ↦ absurd ((none (read_by blocks) u v reads).1 beyond) ],
)

-- relations with the same pairs as two others may differ by the same
pub differences_along : (blocks : List ℕ) (R S R' S' : Relation) (d : Differences) → ((u v : List ℕ) → R u v ↔ R' u v) → ((u v : List ℕ) → S u v ↔ S' u v)
    → AreDifferences blocks R S d → AreDifferences blocks R' S' d
differences_along blocks R S R' S' d first second are = record {
  lost_letters = are.lost_letters;
  added_letters = are.added_letters;
  lost = λ u v r. elim (are.lost u v ((first u v).1 r)) [ inl s ↦ inl ((second u v).0 s) | inr beyond ↦ inr beyond ];
  added = λ u v s. elim (are.added u v ((second u v).1 s)) [ inl r ↦ inl ((first u v).0 r) | inr beyond ↦ inr beyond ];
}

-- ---- the symbols of paths

-- the block of one of the symbols is one of their blocks
block_among : (blocks symbols : List ℕ) (s : ℕ) → Contains symbols s → Contains (map (block_of blocks) symbols) (block_of blocks s)
block_among blocks symbols s (k, within, at) = (
  k,
  omega (arith, within, length-map symbols (block_of blocks)),
  get_or-map (block_of blocks) symbols k s (block_of blocks s) within ∙ ap (block_of blocks) at,
)

module _ (blocks : List ℕ) (level : Level) (n : ℕ) (g : Topology) (few : n + 1 < length blocks) (placed : All (λ node. symbol_at level node < n) g.nodes) where
  abbrev inputs : List ℕ
  inputs = map (block_of blocks) (path_symbols_of level n g.nodes)

  among : (s : ℕ) → s < length blocks → Contains (path_symbols_of level n g.nodes) s → Contains inputs (read_by blocks s)
  among s below has_s = subst (Contains inputs) (sym (read_symbol blocks s below)) (block_among blocks (path_symbols_of level n g.nodes) s has_s)

  node_symbol : All (λ node. Contains inputs (read_by blocks (symbol_at level node))) g.nodes
  node_symbol k d within =
      let node = get_or g.nodes k d in
      let below = placed k d within in
      among (symbol_at level node) (omega (arith, below, few))
      (Contains-append_left (map (symbol_at level) g.nodes) (n ∷ (n + 1) ∷ []) (symbol_at level node) (one_of level g.nodes k d within))

  drop_symbol : Contains inputs (read_by blocks n)
  drop_symbol = among n (omega (arith, few)) (Contains-append_right (map (symbol_at level) g.nodes) (n ∷ (n + 1) ∷ []) n (Contains-get_or (n ∷ (n + 1) ∷ []) 0 0 (omega arith)))

  loop_symbol : Contains inputs (read_by blocks (n + 1))
  loop_symbol = among (n + 1) few (Contains-append_right (map (symbol_at level) g.nodes) (n ∷ (n + 1) ∷ []) (n + 1) (Contains-get_or (n ∷ (n + 1) ∷ []) 1 0 (omega arith)))

  pub paths_read : IsTopology g → (names : List (List ℕ)) → length names ≡ n → (word : List ℕ) → Paths g level names word → IsReadAs (read_by blocks) inputs word
  paths_read is names count word path =
      path_each g is (λ s. Contains inputs (read_by blocks s)) level node_symbol names
      (subst (λ m. Contains inputs (read_by blocks m)) (sym count) drop_symbol) (subst (λ m. Contains inputs (read_by blocks (m + 1))) (sym count) loop_symbol) word path

-- each symbol's block is one of the blocks
pub inputs_below : (blocks symbols : List ℕ) → All (λ s. s < length blocks) symbols → All (λ k. k < block_count blocks) (map (block_of blocks) symbols)
inputs_below blocks symbols below =
    All-map (λ k. k < block_count blocks) (block_of blocks) symbols
    (λ k d within. let s = below k d within in subst (λ b. b < block_count blocks) (read_symbol blocks (get_or symbols k d) s) (read_below blocks (get_or symbols k d) s))

-- ---- the verdict

image_within : (X Y P : WordSet) (R S : Relation) → ((w : List ℕ) → X w → Y w) → ((w : List ℕ) → X w → P w) → ((u v : List ℕ) → P u → R u v → S u v)
    → (v : List ℕ) → ImageOf X R v → ImageOf Y S v
image_within X Y P R S words only pairs v i = record {
  source = i.source;
  in_set = words i.source i.in_set;
  related = pairs i.source v (only i.source i.in_set) i.related;
}

met_by_same : (at_most : Bool) (X Y : WordSet) → ((w : List ℕ) → X w ↔ Y w) → AreMet at_most X Y
met_by_same false X Y same = same
met_by_same true X Y same = λ w y. (same w).1 y

-- a check is met by the same paths before and after the change where both relations have the same pairs for these
pub met_on : (check : Checked) (n : ℕ) (pre post P : WordSet) → ((w : List ℕ) → pre w ↔ post w) → ((w : List ℕ) → pre w → P w)
    → ((u v : List ℕ) → P u → Before check.classes n check.body u v ↔ After check.classes n check.body u v) → Meets check n pre post
met_on check n pre post P words only pairs =
    met_by_same check.at_most (ImageOf pre (Before check.classes n check.body)) (ImageOf post (After check.classes n check.body)) (λ v. (
      image_within pre post P (Before check.classes n check.body) (After check.classes n check.body) (λ w. (words w).0) only (λ x y p. (pairs x y p).0) v,
      image_within post pre P (After check.classes n check.body) (Before check.classes n check.body) (λ w. (words w).1) (λ w after. only w ((words w).1 after)) (λ x y p. (pairs x y p).1) v,
    ))

-- each of them is a symbol of the blocks
pub symbols_below : (blocks : List ℕ) (level : Level) (n : ℕ) (g : Topology) → n + 1 < length blocks → All (λ node. symbol_at level node < n) g.nodes
    → All (λ s. s < length blocks) (path_symbols_of level n g.nodes)
symbols_below blocks level n g few placed =
    All-append (λ s. s < length blocks) (map (symbol_at level) g.nodes) (n ∷ (n + 1) ∷ [])
    (All-map (λ s. s < length blocks) (symbol_at level) g.nodes (λ k d within. let below = placed k d within in omega (arith, below, few)))
    (All-cons (λ s. s < length blocks) n ((n + 1) ∷ []) (omega (arith, few)) (All-cons (λ s. s < length blocks) (n + 1) [] few (All-nil (λ s. s < length blocks))))

-- the symbols of paths as they were gathered are those, and each of them is a symbol of the blocks
pub gathered : (check : Checked) (locations : ℕ) (blocks : List ℕ) (level at : Level) (n : ℕ) (g : Topology) (nodes : List Node) (symbols : List ℕ)
    → AreBlocks check locations blocks → n ≡ locations → at ≡ level → nodes ≡ g.nodes → symbols ≡ path_symbols_of at n nodes → All (λ node. symbol_at level node < n) g.nodes
    → (n + 1 < length blocks) × (symbols ≡ path_symbols_of level n g.nodes) × All (λ s. s < length blocks) symbols
gathered check locations blocks level at n g nodes symbols are same at_is nodes_are symbols_are placed =
    let few : n + 1 < length blocks = omega (arith, are.symbols, same) in
    let they : symbols ≡ path_symbols_of level n g.nodes = symbols_are ∙ ap (λ l. path_symbols_of l n nodes) at_is ∙ ap (path_symbols_of level n) nodes_are in
    (few, they, subst (All (λ s. s < length blocks)) (sym they) (symbols_below blocks level n g few placed))
