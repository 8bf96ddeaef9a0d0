-- The blocks of path symbols by which an assertion is decided for a flow.
use Rattle.std.specs.Prelude.{ℕ, ◌+◌, List, [], ◌∷◌, ◌++◌, length, map}
use Rattle.rela_blocks.specs.Readable.{AreGraphsReadable}
use Rattle.rela_build.specs.Lettering.{AreLetterBlocks, IsAlone}
use Rattle.rela_graph.specs.Topology.{Topology, symbol_at}
use Rattle.rela_names.specs.declared.level.Level.{Level}
use Rattle.rela_rir.specs.declared.assertion.Assertion.{Assertion}
use Rattle.rela_rir.specs.declared.set.SymbolSet.{SymbolSet}
use Rattle.rela_engine.specs.Leaves.{TermsName, plain_lettering}
use Rattle.rela_rir.specs.NamedSymbols.{symbols_of_terms}

-- the symbols that are to have blocks of their own: those that the terms name by themselves, the locations of the
-- nodes of both graphs, `drop` and `loop`
abbrev pub symbols_apart : Assertion → ℕ → Level → Topology → Topology → List ℕ
symbols_apart assertion locations level pre post =
    symbols_of_terms assertion ++ map (symbol_at level) pre.nodes
    ++ map (symbol_at level) post.nodes ++ locations ∷ (locations + 1) ∷ []

-- the blocks are letters of terms over the classes, each symbol that the assertion's terms name by itself is a block
-- of its own, and both graphs can be read by them
pub record ArePlainBlocks (assertion : Assertion) (classes : List SymbolSet) (level : Level)
    (names : List (List ℕ)) (pre post : Topology) (blocks : List ℕ) : Type 0 where
  pub letters : AreLetterBlocks (plain_lettering classes (length names) blocks)
  pub named : TermsName (IsAlone blocks) assertion
  pub graphs : AreGraphsReadable level names pre post blocks
