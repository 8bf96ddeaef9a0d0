-- The blocks by which an assertion is decided for a flow.
use Rattle.std.proofs.Common.{◌≡◌, ◌∙◌, ℕ, ◌+◌, ◌<◌, ◌↔◌, List, [], ◌∷◌, ◌++◌, length, get_or, map, refl, sym, subst, arith}
use Rattle.std.specs.List.{All}
use Rattle.std.specs.Prelude.{Contains, Result, Ok, Err, IfOk}
use Rattle.std.proofs.lemmas.List.Elements.{All-append, All-cons, All-map, All-nil, All-weaker, Contains-append_left, Contains-append_right, Contains-get_or}
use Rattle.rela_build.specs.Lettering.{AreLetterBlocks, AreListedAlike, IsAlone}
use Rattle.rela_build.specs.Named.{Names}
use Rattle.rela_graph.specs.Alone.{StandsAlone}
use Rattle.rela_graph.specs.Topology.{Topology, symbol_at}
use Rattle.rela_labels.specs.Partition.{IsPartition, Together}
use Rattle.rela_names.specs.declared.level.Level.{Level}
use Rattle.rela_rir.specs.Assertions.{first_term, second_term}
use Rattle.rela_rir.specs.declared.assertion.Assertion.{Assertion}
use Rattle.rela_rir.specs.declared.set.SymbolSet.{SymbolSet}
use Rattle.rela_rir.specs.declared.term.PathTerm.{PathTerm}
use Rattle.rela_engine.specs.Leaves.{plain_lettering}
use Rattle.rela_rir.specs.NamedSymbols.{symbols_in, symbols_of_terms}
use Rattle.rela_blocks.specs.Readable.{IsGraphReadable}
use Rattle.rela_engine.specs.PlainBlocks.{ArePlainBlocks, symbols_apart}
use Rattle.rela_engine.proofs.NodesApart.{IsSplit, now_alone, one_of}
use Rattle.rela_engine.proofs.SymbolForms.{front, rest, told}

module _ (assertion : Assertion) (level : Level) (names : List (List ℕ)) (pre post : Topology) where
  abbrev n : ℕ
  n = length names

  abbrev At : Topology → List ℕ
  At g = map (symbol_at level) g.nodes

  abbrev tail : List ℕ
  tail = n ∷ (n + 1) ∷ []

  abbrev parts : List ℕ
  parts = symbols_apart assertion n level pre post

  abbrev IsBelow : ℕ → Type 0
  IsBelow s = s < n + 2

  at_below : (g : Topology) → All (λ node. symbol_at level node < n) g.nodes → All IsBelow (At g)
  at_below g placed =
      All-map IsBelow (symbol_at level) g.nodes (All-weaker (λ node. symbol_at level node < n) (λ node. IsBelow (symbol_at level node)) (λ node less. omega (arith, less)) g.nodes placed)

  pub parts_below : All IsBelow (symbols_of_terms assertion) → All (λ node. symbol_at level node < n) pre.nodes → All (λ node. symbol_at level node < n) post.nodes → All IsBelow parts
  parts_below named pre_placed post_placed =
      All-append IsBelow (symbols_of_terms assertion ++ At pre ++ At post) tail
      (All-append IsBelow (symbols_of_terms assertion ++ At pre) (At post)
      (All-append IsBelow (symbols_of_terms assertion) (At pre) named (at_below pre pre_placed)) (at_below post post_placed))
      (All-cons IsBelow n ((n + 1) ∷ []) (omega arith) (All-cons IsBelow (n + 1) [] (omega arith) (All-nil IsBelow)))

  -- ---- where these symbols were set apart

  module _ (classes : List SymbolSet) (coarse fine : List ℕ) (few : length coarse ≡ n + 2)
      (alike : (s t : ℕ) → s < n + 2 → t < n + 2 → Together coarse s t → AreListedAlike classes s t)
      (is : IsSplit coarse parts fine) (partition : IsPartition fine) where
    size : length fine ≡ n + 2
    size = is.same_symbols ∙ few

    alone : (s : ℕ) → s < n + 2 → Contains parts s → StandsAlone fine s
    alone s below has = now_alone coarse n level pre post parts fine is s (omega (arith, below, few)) has

    is_alone : (s : ℕ) → s < n + 2 → Contains parts s → IsAlone fine s
    is_alone s below has = record { symbol = omega (arith, below, size); alone = λ t within one. sym (alone s below has t within (sym one)) }

    letters : AreLetterBlocks (plain_lettering classes n fine)
    letters = record {
      symbols = omega (arith, size);
      partition = partition;
      of_path = λ s t s_in t_in one path. omega (arith, t_in, size);
      of_classes = λ s t s_in t_in one.
          alike s t (omega (arith, s_in, size)) (omega (arith, t_in, size))
          ((is.together s t (omega (arith, s_in, is.same_symbols)) (omega (arith, t_in, is.same_symbols))).0 one).0;
    }

    -- each symbol of a part is alone
    term_alone : (x : PathTerm) → All IsBelow (symbols_in x) → ((s : ℕ) → Contains (symbols_in x) s → Contains parts s) → Names (IsAlone fine) x
    term_alone x named within =
        (told (IsAlone fine) x).1
        (λ k d inside. is_alone (get_or (symbols_in x) k d) (named k d inside)
        (within (get_or (symbols_in x) k d) (Contains-get_or (symbols_in x) k d inside)))

    of_nodes : (s : ℕ) → Contains (symbols_of_terms assertion ++ At pre ++ At post) s → Contains parts s
    of_nodes s has = Contains-append_left (symbols_of_terms assertion ++ At pre ++ At post) tail s has

    of_front : (s : ℕ) → Contains (symbols_of_terms assertion ++ At pre) s → Contains parts s
    of_front s has = of_nodes s (Contains-append_left (symbols_of_terms assertion ++ At pre) (At post) s has)

    of_terms : (s : ℕ) → Contains (symbols_of_terms assertion) s → Contains parts s
    of_terms s has = of_front s (Contains-append_left (symbols_of_terms assertion) (At pre) s has)

    of_pre : (s : ℕ) → Contains (At pre) s → Contains parts s
    of_pre s has = of_front s (Contains-append_right (symbols_of_terms assertion) (At pre) s has)

    of_post : (s : ℕ) → Contains (At post) s → Contains parts s
    of_post s has = of_nodes s (Contains-append_right (symbols_of_terms assertion ++ At pre) (At post) s has)

    of_tail : (s : ℕ) → Contains tail s → Contains parts s
    of_tail s has = Contains-append_right (symbols_of_terms assertion ++ At pre ++ At post) tail s has

    readable : (g : Topology) → All (λ node. symbol_at level node < n) g.nodes → ((s : ℕ) → Contains (At g) s → Contains parts s) → IsGraphReadable level names g fine
    readable g placed within = record {
      placed = placed;
      symbols = omega (arith, size);
      nodes = λ k d inside.
          alone (symbol_at level (get_or g.nodes k d)) (let less = placed k d inside in omega (arith, less)) (within (symbol_at level (get_or g.nodes k d)) (one_of level g.nodes k d inside));
      drops = alone n (omega arith) (of_tail n (0, omega arith, refl));
      loops = alone (n + 1) (omega arith) (of_tail (n + 1) (1, omega arith, refl));
    }

    plain : All IsBelow (symbols_of_terms assertion) → All (λ node. symbol_at level node < n) pre.nodes → All (λ node. symbol_at level node < n) post.nodes
        → ArePlainBlocks assertion classes level names pre post fine
    plain named pre_placed post_placed = record {
      letters = letters;
      named = (
        term_alone (first_term assertion) (front IsBelow (symbols_in (first_term assertion)) (symbols_in (second_term assertion)) named)
            (λ s has. of_terms s (Contains-append_left (symbols_in (first_term assertion)) (symbols_in (second_term assertion)) s has)),
        term_alone (second_term assertion) (rest IsBelow (symbols_in (first_term assertion)) (symbols_in (second_term assertion)) named)
            (λ s has. of_terms s (Contains-append_right (symbols_in (first_term assertion)) (symbols_in (second_term assertion)) s has)),
      );
      graphs = (readable pre pre_placed of_pre, readable post post_placed of_post);
    }

-- the partition in which the gathered symbols stand alone
pub plain_result : {E : Type 0} (assertion : Assertion) (classes : List SymbolSet) (level : Level) (names : List (List ℕ)) (pre post : Topology)
    (coarse symbols : List ℕ) (r : Result (List ℕ) E) → symbols ≡ symbols_apart assertion (length names) level pre post → length coarse ≡ length names + 2
    → ((s t : ℕ) → s < length names + 2 → t < length names + 2 → Together coarse s t → AreListedAlike classes s t)
    → IfOk r (λ fine. length fine ≡ length coarse) → IfOk r IsPartition
    → IfOk r (λ fine. (s t : ℕ) → s < length coarse → t < length coarse
    → Together fine s t ↔ (Together coarse s t × ((u : ℕ) → Contains symbols u → (s ≡ u) ↔ (t ≡ u))))
    → All (λ s. s < length names + 2) (symbols_of_terms assertion) → All (λ node. symbol_at level node < length names) pre.nodes
    → All (λ node. symbol_at level node < length names) post.nodes → IfOk r (ArePlainBlocks assertion classes level names pre post)
plain_result assertion classes level names pre post coarse symbols (Err e) gathered few alike same partition together named pre_placed post_placed = tt
plain_result assertion classes level names pre post coarse symbols (Ok fine) gathered few alike same partition together named pre_placed post_placed =
    plain assertion level names pre post classes coarse fine few alike
    (subst (λ (l : List ℕ). IsSplit coarse l fine) gathered (record { same_symbols = same; together = together })) partition named pre_placed post_placed
