-- The blocks of a check, and those by which it is judged for a flow.
use Rattle.std.proofs.Common.{◌≡◌, ◌∙◌, ℕ, zero, suc, ◌+◌, ◌-◌, ◌<◌, ◌≤◌, ◌↔◌, List, [], ◌∷◌, ◌++◌, length, get_or, map, inl, inr, refl, sym, ap, subst, append_assoc, add-one, arith}
use Rattle.std.specs.List.{All, range_with_len}
use Rattle.std.specs.Prelude.{Contains, Result, Ok, Err, IfOk}
use Rattle.std.proofs.lemmas.Bool.{cases_lt}
use Rattle.std.proofs.lemmas.List.{length-map, get_or-map}
use Rattle.std.proofs.lemmas.List.FromFn.{get_or-range_with_len, length-range_with_len}
use Rattle.std.proofs.lemmas.List.Elements.{All-append, All-map, All-weaker, All-contains, Contains-append_left, Contains-append_right, Contains-get_or}
use Rattle.rela_build.specs.Lettering.{AreLetterBlocks, AreListedAlike, IsAlone}
use Rattle.rela_build.specs.Named.{NamesR}
use Rattle.rela_graph.specs.Alone.{StandsAlone}
use Rattle.rela_graph.specs.Topology.{Topology, symbol_at}
use Rattle.rela_graph.specs.declared.node.Node.{Node}
use Rattle.rela_labels.specs.Partition.{IsPartition, Together}
use Rattle.rela_names.specs.declared.level.Level.{Level}
use Rattle.rela_nfa.specs.Relabelling.{Refines}
use Rattle.rela_translate.specs.Checked.{Checked, IsCheck, markers_of}
use Rattle.rela_translate.specs.Terms.{after_of, before_of}
use Rattle.rela_translate.specs.Zones.{marker_symbol}
use Rattle.rela_translate.specs.declared.body.Core.{Core}
use Rattle.rela_blocks.specs.Alone.{AreOthersAlone}
use Rattle.rela_blocks.specs.Blocks.{AreBlocks, AreOne}
use Rattle.rela_blocks.specs.Readable.{IsGraphReadable}
use Rattle.rela_blocks.specs.RowBlocks.{AreCheckBlocks, AreRowBlocks, check_symbols_apart, node_symbols, symbols_of}
use Rattle.rela_blocks.specs.Scenes.{lettering_of}

-- a number from first on and below the end is in the range
pub in_range : (first n s : ℕ) → first ≤ s → s < first + n → Contains (range_with_len first n) s
in_range first n s low high =
    let k = s - first in
    let at : get_or (range_with_len first n) k 0 ≡ s = get_or-range_with_len first n k 0 (omega arith) ∙ omega arith in
    let within : k < length (range_with_len first n) = omega (arith, length-range_with_len first n) in
    subst (Contains (range_with_len first n)) at (Contains-get_or (range_with_len first n) k 0 within)

pub range_below : (first n end : ℕ) → first + n ≤ end → All (λ s. s < end) (range_with_len first n)
range_below first n end less k d within =
    let inside : k < n = omega (arith, within, length-range_with_len first n) in
    let at = get_or-range_with_len first n k d inside in
    omega (arith, at, less, inside)

range_more : (first n : ℕ) → range_with_len first (suc n) ≡ range_with_len first n ++ (first + n) ∷ []
range_more first zero = ap (λ (s : ℕ). s ∷ []) (omega arith)
range_more first (suc n) =
    ap (λ (r : List ℕ). first ∷ r) (range_more (first + 1) n ∙ ap (λ (s : ℕ). range_with_len (first + 1) n ++ s ∷ []) (omega arith))

-- one more number of a range is pushed
pub range_pushed : (old : List ℕ) (first k : ℕ) (before after : List ℕ) → before ≡ old ++ range_with_len first k → after ≡ before ++ (first + k) ∷ []
    → after ≡ old ++ range_with_len first (k + 1)
range_pushed old first k before after so_far is =
    is ∙ ap (λ (l : List ℕ). l ++ (first + k) ∷ []) so_far ∙ append_assoc old (range_with_len first k) ((first + k) ∷ [])
    ∙ ap (λ (l : List ℕ). old ++ l) (sym (range_more first k)) ∙ ap (λ (n : ℕ). old ++ range_with_len first n) (sym (add-one k))

one_of : (level : Level) (nodes : List Node) (k : ℕ) (d : Node) → k < length nodes → Contains (map (symbol_at level) nodes) (symbol_at level (get_or nodes k d))
one_of level nodes k d within =
    let long : k < length (map (symbol_at level) nodes) = omega (arith, within, length-map nodes (symbol_at level)) in
    subst (Contains (map (symbol_at level) nodes)) (get_or-map (symbol_at level) nodes k d 0 within) (Contains-get_or (map (symbol_at level) nodes) k 0 long)

range_from : (first count : ℕ) → All (λ s. first ≤ s) (range_with_len first count)
range_from first count i d within =
    let inside : i < count = omega (arith, within, length-range_with_len first count) in
    let at = get_or-range_with_len first count i d inside in
    omega (arith, at)

-- each symbol that the two relations of a body name is a block of its own where `drop` and the markers are
pub record NamesAlone : Type 0 where
  pub before : (blocks : List ℕ) (n : ℕ) (body : Core) → AreOthersAlone blocks n body → NamesR (IsAlone blocks) (before_of n body)
  pub after : (blocks : List ℕ) (n : ℕ) (body : Core) → AreOthersAlone blocks n body → NamesR (IsAlone blocks) (after_of n body)

-- the symbols u are set apart in the finer partition
abbrev AreApart : List ℕ → ℕ → ℕ → Type 0
AreApart symbols s t = (u : ℕ) → Contains symbols u → (s ≡ u) ↔ (t ≡ u)

module _ (check : Checked) (n : ℕ) where
  abbrev m : ℕ
  m = length (markers_of check.body)

  abbrev tail : List ℕ
  tail = check_symbols_apart check n

  abbrev IsSymbol : ℕ → Type 0
  IsSymbol s = s < symbols_of check n

  pub tail_below : All IsSymbol tail
  tail_below = range_below n (2 + m) (symbols_of check n) (omega arith)

  -- where all symbols but the locations stand alone, so does each that a term names
  module _ (blocks : List ℕ) (apart : (s : ℕ) → n ≤ s → IsSymbol s → IsAlone blocks s) (is : IsCheck check) where
    -- a marker of the check is one of its last symbols
    marked : (k : ℕ) → Contains (markers_of check.body) k → IsAlone blocks (marker_symbol n k)
    marked k has =
        let among : Contains (range_with_len 1 m) k = subst (λ (l : List ℕ). Contains l k) is.numbered has in
        let low : 1 ≤ k = All-contains (λ s. 1 ≤ s) (range_with_len 1 m) k (range_from 1 m) among in
        let high : k < 1 + m = All-contains (λ s. s < 1 + m) (range_with_len 1 m) k (range_below 1 m (1 + m) (omega arith)) among in
        apart (marker_symbol n k) (omega arith) (omega (arith, low, high))

    others_alone : AreOthersAlone blocks n check.body
    others_alone = record { drop = apart n (omega arith) (omega arith); markers = marked }

  -- blocks that split those of a check
  lettered : (blocks : List ℕ) → length blocks ≡ symbols_of check n → IsPartition blocks → ((s : ℕ) → n ≤ s → IsSymbol s → IsAlone blocks s)
      → ((s t : ℕ) → s < length blocks → t < length blocks → Together blocks s t → AreListedAlike check.classes s t) → AreLetterBlocks (lettering_of check n blocks)
  lettered blocks size partition apart alike = record {
    symbols = size;
    partition = partition;
    of_path = λ s t s_in t_in one path. elim (cases_lt t (n + 2)) [
      | inl below ↦ below
      | inr past ↦
          let same : s ≡ t = (apart t (omega arith) (omega (arith, t_in, size))).alone s s_in one in
          omega (arith, same, path)
    ];
    of_classes = alike;
  }

  -- ---- the blocks of the check

  module _ (law : NamesAlone) (split blocks : List ℕ) (few : length split ≡ symbols_of check n)
      (alike : (s t : ℕ) → IsSymbol s → IsSymbol t → Together split s t → AreListedAlike check.classes s t)
      (size : length blocks ≡ length split) (partition : IsPartition blocks)
      (together : (s t : ℕ) → s < length split → t < length split → Together blocks s t ↔ (Together split s t × AreApart tail s t)) (is : IsCheck check) where
    tail_alone : (s : ℕ) → n ≤ s → IsSymbol s → IsAlone blocks s
    tail_alone s low high = record {
      symbol = omega (arith, high, size, few);
      alone = λ t within one.
          let apart = ((together t s (omega (arith, within, size)) (omega (arith, high, few))).0 one).1 in
          (apart s (in_range n (2 + m) s low (omega arith))).1 refl;
    }

    are_check_blocks : AreCheckBlocks check n blocks
    are_check_blocks = record {
      letters = lettered blocks (omega (arith, size, few)) partition tail_alone (λ s t s_in t_in one.
          alike s t (omega (arith, s_in, size, few)) (omega (arith, t_in, size, few))
          ((together s t (omega (arith, s_in, size)) (omega (arith, t_in, size))).0 one).0);
      apart = tail_alone;
      before = law.before blocks n check.body (others_alone blocks tail_alone is);
      after = law.after blocks n check.body (others_alone blocks tail_alone is);
    }

  pub check_result : {E : Type 0} → NamesAlone → (split symbols : List ℕ) (r : Result (List ℕ) E) → symbols ≡ tail → length split ≡ symbols_of check n
      → ((s t : ℕ) → IsSymbol s → IsSymbol t → Together split s t ↔ AreListedAlike check.classes s t)
      → IfOk r (λ blocks. length blocks ≡ length split) → IfOk r IsPartition
      → IfOk r (λ blocks. (s t : ℕ) → s < length split → t < length split → Together blocks s t ↔ (Together split s t × AreApart symbols s t))
      → IsCheck check → IfOk r (AreCheckBlocks check n)
  check_result law split symbols (Err e) gathered few alike size partition together is = tt
  check_result law split symbols (Ok blocks) gathered few alike size partition together is =
      are_check_blocks law split blocks few (λ s t s_in t_in. (alike s t s_in t_in).0) size partition
      (subst (λ (l : List ℕ). (s t : ℕ) → s < length split → t < length split → Together blocks s t ↔ (Together split s t × AreApart l s t)) gathered together) is

  -- ---- which symbols of the check share one

  one_if_alike : (s t : ℕ) → IsSymbol s → IsSymbol t → AreListedAlike check.classes s t → AreApart tail s t → AreOne check.classes n s t
  one_if_alike s t s_is t_is listed apart =
      elim (cases_lt s n) [
        | inl s_low ↦
            elim (cases_lt t n) [
              | inl t_low ↦ inr (record { first = s_low; second = t_low; listed = listed })
              | inr t_high ↦ inl ((apart t (in_range n (2 + m) t t_high (omega (arith, t_is)))).1 refl)
            ]
        | inr s_high ↦ inl (sym ((apart s (in_range n (2 + m) s s_high (omega (arith, s_is)))).0 refl))
      ]

  listed_of : (s t : ℕ) → AreOne check.classes n s t → AreListedAlike check.classes s t
  listed_of s t (inl same) = subst (λ (x : ℕ). AreListedAlike check.classes s x) same (λ i d within. (λ has. has, λ has. has))
  listed_of s t (inr alike) = alike.listed

  apart_of : (s t : ℕ) → AreOne check.classes n s t → AreApart tail s t
  apart_of s t (inl same) = subst (λ (x : ℕ). AreApart tail s x) same (λ u has. (λ e. e, λ e. e))
  apart_of s t (inr alike) =
      λ u has. let from : n ≤ u = All-contains (λ x. n ≤ x) tail u (range_from n (2 + m)) has in
      (λ e. absurd (omega (arith, alike.first, e, from)), λ e. absurd (omega (arith, alike.second, e, from)))

  pub blocks_result : {E : Type 0} (split symbols : List ℕ) (r : Result (List ℕ) E) → symbols ≡ tail → length split ≡ symbols_of check n
      → ((s t : ℕ) → IsSymbol s → IsSymbol t → Together split s t ↔ AreListedAlike check.classes s t)
      → IfOk r (λ blocks. length blocks ≡ length split) → IfOk r IsPartition
      → IfOk r (λ blocks. (s t : ℕ) → s < length split → t < length split → Together blocks s t ↔ (Together split s t × AreApart symbols s t))
      → IfOk r (AreBlocks check n)
  blocks_result split symbols (Err e) gathered few alike size partition together = tt
  blocks_result split symbols (Ok blocks) gathered few alike size partition together = record {
    symbols = size ∙ few;
    partition = partition;
    together = λ s t s_in t_in.
        let s_is : IsSymbol s = omega (arith, s_in, size, few) in
        let t_is : IsSymbol t = omega (arith, t_in, size, few) in
        let told = together s t (omega (arith, s_is, few)) (omega (arith, t_is, few)) in
        let apart : (l : List ℕ) → l ≡ tail → AreApart l s t ↔ AreApart tail s t = λ l is. (subst (λ (k : List ℕ). AreApart k s t) is, subst (λ (k : List ℕ). AreApart k s t) (sym is)) in (
          λ one. one_if_alike s t s_is t_is ((alike s t s_is t_is).0 (told.0 one).0) ((apart symbols gathered).0 (told.0 one).1),
          λ one. told.1 ((alike s t s_is t_is).1 (listed_of s t one), (apart symbols gathered).1 (apart_of s t one)),
        );
  }

-- ---- the blocks of a row

module _ (check : Checked) (names : List (List ℕ)) (pre post : Topology) where
  abbrev At : Topology → List ℕ
  At g = map (symbol_at check.level) g.nodes

  abbrev parts : List ℕ
  parts = node_symbols check.level pre post

  abbrev IsPlaced : Topology → Type 0
  IsPlaced g = All (λ node. symbol_at check.level node < length names) g.nodes

  at_below : (g : Topology) → IsPlaced g → All (λ s. s < symbols_of check (length names)) (At g)
  at_below g placed =
      All-map (λ s. s < symbols_of check (length names)) (symbol_at check.level) g.nodes
      (All-weaker (λ node. symbol_at check.level node < length names) (λ node. symbol_at check.level node < symbols_of check (length names)) (λ node less. omega (arith, less)) g.nodes placed)

  pub parts_below : IsPlaced pre → IsPlaced post → All (λ s. s < symbols_of check (length names)) parts
  parts_below pre_placed post_placed =
      All-append (λ s. s < symbols_of check (length names)) (At pre) (At post) (at_below pre pre_placed) (at_below post post_placed)

  module _ (coarse fine : List ℕ) (are : AreCheckBlocks check (length names) coarse) (is : IsCheck check)
      (size : length fine ≡ length coarse) (partition : IsPartition fine)
      (together : (s t : ℕ) → s < length coarse → t < length coarse → Together fine s t ↔ (Together coarse s t × AreApart parts s t)) where
    few : length coarse ≡ symbols_of check (length names)
    few = are.letters.symbols

    refines : Refines fine coarse
    refines = record {
      same_symbols = size;
      together = λ s t s_in t_in one. ((together s t (omega (arith, s_in, size)) (omega (arith, t_in, size))).0 one).0;
    }

    still_alone : (s : ℕ) → length names ≤ s → s < symbols_of check (length names) → IsAlone fine s
    still_alone s low high = record {
      symbol = omega (arith, high, size, few);
      alone = λ t within one. (are.apart s low high).alone t (omega (arith, within, size)) (refines.together t s within (omega (arith, high, size, few)) one);
    }

    stands : (s : ℕ) → IsAlone fine s → StandsAlone fine s
    stands s alone t within one = sym (alone.alone t within (sym one))

    node_alone : (s : ℕ) → s < symbols_of check (length names) → Contains parts s → StandsAlone fine s
    node_alone s below has t within one =
        sym ((((together s t (omega (arith, below, few)) (omega (arith, within, size))).0 one).1 s has).0 refl)

    readable : (g : Topology) → IsPlaced g → ((s : ℕ) → Contains (At g) s → Contains parts s) → IsGraphReadable check.level names g fine
    readable g placed within = record {
      placed = placed;
      symbols = omega (arith, size, few);
      nodes = λ k d inside.
          node_alone (symbol_at check.level (get_or g.nodes k d)) (let less = placed k d inside in omega (arith, less))
          (within (symbol_at check.level (get_or g.nodes k d)) (one_of check.level g.nodes k d inside));
      drops = stands (length names) (still_alone (length names) (omega arith) (omega arith));
      loops = stands (length names + 1) (still_alone (length names + 1) (omega arith) (omega arith));
    }

    are_row_blocks : NamesAlone → IsPlaced pre → IsPlaced post → AreRowBlocks check names pre post fine
    are_row_blocks law pre_placed post_placed = record {
      letters = lettered check (length names) fine (omega (arith, size, few)) partition still_alone (λ s t s_in t_in one.
          are.letters.of_classes s t (omega (arith, s_in, size)) (omega (arith, t_in, size)) (refines.together s t s_in t_in one));
      before = law.before fine (length names) check.body (others_alone check (length names) fine still_alone is);
      after = law.after fine (length names) check.body (others_alone check (length names) fine still_alone is);
      graphs = (
        readable pre pre_placed (λ s has. Contains-append_left (At pre) (At post) s has),
        readable post post_placed (λ s has. Contains-append_right (At pre) (At post) s has),
      );
    }

  -- the partition in which the gathered symbols stand alone
  module _ (coarse symbols : List ℕ) (gathered : symbols ≡ parts) (are : AreCheckBlocks check (length names) coarse) (is : IsCheck check) where
    abbrev IsSplit : List ℕ → List ℕ → Type 0
    IsSplit l fine = (s t : ℕ) → s < length coarse → t < length coarse → Together fine s t ↔ (Together coarse s t × AreApart l s t)

    pub row_result : {E : Type 0} → NamesAlone → (r : Result (List ℕ) E) → IfOk r (λ fine. length fine ≡ length coarse) → IfOk r IsPartition → IfOk r (IsSplit symbols)
        → IsPlaced pre → IsPlaced post → IfOk r (AreRowBlocks check names pre post)
    row_result law (Err e) size partition together pre_placed post_placed = tt
    row_result law (Ok fine) size partition together pre_placed post_placed =
        are_row_blocks coarse fine are is size partition (subst (λ (l : List ℕ). IsSplit l fine) gathered together) law pre_placed post_placed

    pub finer_result : {E : Type 0} (r : Result (List ℕ) E) → IfOk r (λ fine. length fine ≡ length coarse) → IfOk r IsPartition → IfOk r (IsSplit symbols)
        → IfOk r (λ fine. Refines fine coarse)
    finer_result (Err e) size partition together = tt
    finer_result (Ok fine) size partition together =
        refines coarse fine are is size partition (subst (λ (l : List ℕ). IsSplit l fine) gathered together)
