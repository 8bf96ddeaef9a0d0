-- A check that is to be decided for a flow, by automata whose letters are blocks of symbols.
use Rattle.std.specs.Prelude.{◌≡◌, ℕ, ◌<◌, List, All, length, map}
use Rattle.rela_build.specs.Reading.{read_by}
use Rattle.rela_graph.specs.Paths.{Paths}
use Rattle.rela_graph.specs.Topology.{Topology, symbol_at}
use Rattle.rela_labels.specs.Partition.{block_count}
use Rattle.rela_report.specs.declared.rows.Row.{Row}
use Rattle.rela_rir.specs.Words.{WordSet, ImageOf}
use Rattle.rela_snapshot.specs.PairsLocated.{IsPairLocated}
use Rattle.rela_trans.specs.Machine.{Machine}
use Rattle.rela_trans.specs.Runs.{Relates}
use Rattle.rela_engine.specs.Compilation.{AreRelations}
use Rattle.rela_engine.specs.LetterImages.{AreParents, IsReadOver}
use Rattle.rela_engine.specs.RowOf.{MayBeOpen, RowOf}
use Rattle.rela_blocks.specs.FlowName.{FlowName}
use Rattle.rela_blocks.specs.Scenes.{paths_of}
use Rattle.rela_engine.specs.Seen.{AreFiner}
use Rattle.rela_engine.specs.declared.block_paths.BlockPaths.{BlockPaths}
use Rattle.rela_engine.specs.declared.case.Case.{Case}

-- the alphabet is that of the check's level, the flow's nodes stand at its locations, the relations are the check's,
-- and the blocks refine its own, so that the symbols of the flow's paths stand alone
pub record IsCase (case : Case) : Type 0 where
  pub alphabet : length case.alphabet.now ≡ case.compiled.now.locations
  pub located : IsPairLocated case.alphabet.now case.compiled.now.check.level case.pair.now
  pub relations : AreRelations case.compiled.now case.relations.now
  pub blocks : AreFiner case.compiled.now.blocks (length case.alphabet.now)
      case.compiled.now.check.level case.pair.now.before case.pair.now.after case.blocks.now

-- the flow, at the check's level
abbrev pub flow_of : Case → FlowName
flow_of case = record {
  level = case.compiled.now.check.level;
  names = case.alphabet.now;
  before = case.pair.now.before;
  after = case.pair.now.after;
}

-- the paths of a graph at the check's level
abbrev pub paths_in : Case → Topology → WordSet
paths_in case g = Paths g case.compiled.now.check.level case.alphabet.now

-- the row is right for the check and the flow
abbrev pub IsRight : Case → Row → Type 0
IsRight case row =
    RowOf case.compiled.now.check (length case.alphabet.now)
    (paths_of case.compiled.now.check.level case.alphabet.now case.pair.now.before
    case.pair.now.after) case.compiled.now.states row

-- the row may be left open for the check and the flow
abbrev pub MayStayOpen : Case → Type 0
MayStayOpen case =
    MayBeOpen case.compiled.now.check (length case.alphabet.now)
    (paths_of case.compiled.now.check.level case.alphabet.now case.pair.now.before
    case.pair.now.after) case.compiled.now.states

-- the automata of the flow's paths over the blocks, and for each block the check's own one in which it lies
pub record AreBlockPaths (case : Case) (paths : BlockPaths) : Type 0 where
  pub before : IsReadOver case.blocks.now (paths_in case case.pair.now.before) paths.before
  pub after : IsReadOver case.blocks.now (paths_in case case.pair.now.after) paths.after
  pub parents : AreParents case.compiled.now.blocks case.blocks.now paths.parents.items

-- the image of the graph's paths, seen through the transducer, has each word with these letters, which are blocks
pub record IsSeenSide (case : Case) (g : Topology) (t : Machine) (letters : List ℕ) : Type 0 where
  pub alphabet : length case.alphabet.now ≡ case.compiled.now.locations
  pub placed : All (λ node. symbol_at case.compiled.now.check.level node
      < length case.alphabet.now) g.nodes
  pub blocks : AreFiner case.compiled.now.blocks (length case.alphabet.now)
      case.compiled.now.check.level g g case.blocks.now
  pub of_relation : t.letters ≡ block_count case.compiled.now.blocks
  pub below : All (λ k. k < block_count case.blocks.now) letters
  pub image : (word : List ℕ) → map (read_by case.blocks.now) word ≡ letters →
      ImageOf (paths_in case g) (Relates (read_by case.compiled.now.blocks) t) word
