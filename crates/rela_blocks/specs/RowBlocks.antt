-- The symbols of a check, their blocks, and the finer ones by which it is judged for one flow.
use Rattle.std.specs.Prelude.{ℕ, ◌+◌, ◌<◌, ◌≤◌, List, ◌++◌, length, map}
use Rattle.std.specs.List.{range_with_len}
use Rattle.rela_build.specs.Lettering.{AreLetterBlocks, IsAlone}
use Rattle.rela_build.specs.Named.{NamesR}
use Rattle.rela_graph.specs.Topology.{Topology, symbol_at}
use Rattle.rela_names.specs.declared.level.Level.{Level}
use Rattle.rela_translate.specs.Checked.{Checked, markers_of}
use Rattle.rela_translate.specs.Terms.{before_of, after_of}
use Rattle.rela_translate.specs.Zones.{path_symbols}
use Rattle.rela_blocks.specs.Readable.{AreGraphsReadable}
use Rattle.rela_blocks.specs.Scenes.{lettering_of}

-- the number of the check's symbols: the path symbols and its markers
abbrev pub symbols_of : Checked → ℕ → ℕ
symbols_of check locations = path_symbols locations + length (markers_of check.body)

-- the symbols that have blocks of their own for every flow: `drop`, `loop` and the markers
abbrev pub check_symbols_apart : Checked → ℕ → List ℕ
check_symbols_apart check locations =
    range_with_len locations (2 + length (markers_of check.body))

-- those that have them for one flow: the locations of the nodes of both graphs
abbrev pub node_symbols : Level → Topology → Topology → List ℕ
node_symbols level pre post =
    map (symbol_at level) pre.nodes ++ map (symbol_at level) post.nodes

-- The blocks are letters of the check's terms. All symbols but the locations are blocks of their own, and so is each
-- symbol that the terms name by itself.
pub record AreCheckBlocks (check : Checked) (locations : ℕ) (blocks : List ℕ) : Type 0 where
  pub letters : AreLetterBlocks (lettering_of check locations blocks)
  pub apart : (s : ℕ) → locations ≤ s → s < symbols_of check locations → IsAlone blocks s
  pub before : NamesR (IsAlone blocks) (before_of locations check.body)
  pub after : NamesR (IsAlone blocks) (after_of locations check.body)

-- the blocks are letters of the check's terms, each symbol that these name by itself is a block of its own, and both
-- graphs can be read by them
pub record AreRowBlocks (check : Checked) (names : List (List ℕ)) (pre post : Topology)
    (blocks : List ℕ) : Type 0 where
  pub letters : AreLetterBlocks (lettering_of check (length names) blocks)
  pub before : NamesR (IsAlone blocks) (before_of (length names) check.body)
  pub after : NamesR (IsAlone blocks) (after_of (length names) check.body)
  pub graphs : AreGraphsReadable check.level names pre post blocks
