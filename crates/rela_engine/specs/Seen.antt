-- The paths of a snapshot and what a relation makes of them, as automata over blocks of symbols.
use Rattle.std.specs.Prelude.{◌≡◌, ℕ, ◌+◌, ◌↔◌, List, length, map, All}
use Rattle.rela_build.specs.Made.{Leads, LeadsR}
use Rattle.rela_build.specs.Reading.{read_by}
use Rattle.rela_graph.specs.Alone.{StandsAlone}
use Rattle.rela_graph.specs.Topology.{Topology, symbol_at}
use Rattle.rela_graph.specs.declared.node.Node.{Node}
use Rattle.rela_labels.specs.Partition.{block_count, block_of, IsPartition, IsLeastOf}
use Rattle.rela_names.specs.Shortlex.{First}
use Rattle.rela_names.specs.declared.level.Level.{Level}
use Rattle.rela_nfa.specs.Automaton.{Automaton, IsAutomaton}
use Rattle.rela_nfa.specs.Relabelling.{Refines}
use Rattle.rela_nfa.specs.Runs.{Accepts}
use Rattle.rela_pairs.specs.Reachable.{MoreThan}
use Rattle.rela_pairs.specs.declared.pair.Pair.{Pair}
use Rattle.rela_report.specs.declared.rows.Row.{Row}
use Rattle.rela_report.specs.declared.rows.Row.TheVariants.{Compliant, Violated, Undecided}
use Rattle.rela_report.specs.declared.rows.Side.{Side}
use Rattle.rela_report.specs.declared.rows.Side.TheVariants as side
use Rattle.rela_rir.specs.Built.{PathStates}
use Rattle.rela_rir.specs.Words.{ImageOf}
use Rattle.rela_trans.specs.Images.{AreReachedFrom, IsImage}
use Rattle.rela_trans.specs.Machine.{Machine, IsMachine}
use Rattle.rela_trans.specs.Runs.{Relates}
use Rattle.rela_translate.specs.Checked.{Checked}
use Rattle.rela_engine.specs.Compilation.{Twofold}
use Rattle.rela_engine.specs.Reading.{Recognises, RealisesFrom}
use Rattle.rela_engine.specs.RowOf.{relation_of}
use Rattle.rela_blocks.specs.Scenes.{arrivals_of}
use Rattle.rela_engine.specs.declared.seen.Form.{Form}
use Rattle.rela_engine.specs.declared.seen.Form.TheVariants as form

-- each node's location has a block of its own
abbrev pub NodesStandAlone : List ℕ → Level → List Node → Type 0
NodesStandAlone blocks level nodes = All (λ node. StandsAlone blocks (symbol_at level node)) nodes

-- a finer partition, in which the locations of the nodes of two graphs stand alone, and so do `drop` and `loop`
pub record AreFiner (coarse : List ℕ) (locations : ℕ) (level : Level) (pre post : Topology)
    (blocks : List ℕ) : Type 0 where
  pub partition : IsPartition blocks
  pub refines : Refines blocks coarse
  pub before : NodesStandAlone blocks level pre.nodes
  pub after : NodesStandAlone blocks level post.nodes
  pub drops : StandsAlone blocks locations
  pub loops : StandsAlone blocks (locations + 1)

-- each symbol is the least of its block
abbrev pub AreLeastSymbols : List ℕ → List ℕ → Type 0
AreLeastSymbols blocks word = All (λ s. IsLeastOf blocks (block_of blocks s) s) word

-- the automaton's states are the pairs of states of the two machines that some source leads to
abbrev pub IsImageBy : Automaton → Machine → Automaton → Type 0
IsImageBy paths relation image = (pairs : List Pair) × IsImage paths relation pairs image

-- the automaton of a set of words, each of which has least symbols alone, a transducer of the relation for
-- those words, and the automaton of the image
pub record AreSeen (blocks : List ℕ) (words : List ℕ → Type 0) (pairs : List ℕ → List ℕ → Type 0)
    (paths : Automaton) (relation : Machine) (image : Automaton) : Type 0 where
  pub of_paths : Recognises blocks words paths
  pub of_relation : RealisesFrom blocks words pairs relation
  pub of_image : Recognises blocks (ImageOf words pairs) image
  pub of_pairs : IsImageBy paths relation image
  pub paths_ok : IsAutomaton paths
  pub relation_ok : IsMachine relation
  pub image_ok : IsAutomaton image
  pub least : (w : List ℕ) → words w → AreLeastSymbols blocks w

-- what is seen of the paths of both sides, through the two relations of a check
pub record AreSides (blocks : List ℕ) (check : Checked) (locations : ℕ)
    (pre post : List ℕ → Type 0)
    (pre_paths : Automaton) (pre_relation : Machine) (pre_image : Automaton)
    (post_paths : Automaton) (post_relation : Machine) (post_image : Automaton) : Type 0 where
  pub partition : IsPartition blocks
  pub pre_seen : AreSeen blocks pre (relation_of side.Before check locations)
      pre_paths pre_relation pre_image
  pub post_seen : AreSeen blocks post (relation_of side.After check locations)
      post_paths post_relation post_image

-- of the two transducers of a relation the one that is used in this form
abbrev pub machine_of : Form → Twofold → Machine
machine_of form.Plain relation = relation.plain
machine_of form.Small relation = relation.small

-- each pair of words of symbols that leads to a state of one transducer leads to the same state of the other
abbrev pub LeadAlike : List ℕ → Machine → List ℕ → Machine → Type 0
LeadAlike coarse plain blocks relation =
    (q : ℕ) (u v : List ℕ) → LeadsR blocks relation q u v ↔ LeadsR coarse plain q u v

-- the states of the automaton stand for the places of the graph's paths, and those of the transducer are
-- reached as those of the plain one are, whose letters are the coarse blocks
pub record KeepPlaces (coarse blocks : List ℕ) (level : Level) (names : List (List ℕ))
    (g : Topology) (plain : Machine) (paths : Automaton) (relation : Machine) : Type 0 where
  pub of_paths : PathStates (length g.nodes) (arrivals_of level names g) (Leads blocks paths)
  pub of_relation : LeadAlike coarse plain blocks relation

-- the two are such machines, over the blocks, and more pairs of their states than the limit are each reached
-- from one source
pub record ImagePasses (coarse blocks : List ℕ) (level : Level) (names : List (List ℕ))
    (g : Topology) (plain : Machine) (limit : ℕ) : Type 0 where
  pub paths : Automaton
  pub relation : Machine
  pub kept : KeepPlaces coarse blocks level names g plain paths relation
  pub relation_ok : IsMachine relation
  pub letters : relation.letters ≡ block_count blocks
  pub many : MoreThan limit (AreReachedFrom paths relation)

-- the symbols are read as these letters, and each is the least of its block
pub record AreLeast (blocks letters symbols : List ℕ) : Type 0 where
  pub read : map (read_by blocks) symbols ≡ letters
  pub least : AreLeastSymbols blocks symbols

-- the word of letters is accepted, and related to the other
abbrev pub IsSource : Automaton → Machine → List ℕ → List ℕ → Type 0
IsSource paths relation word source = Accepts paths source × Relates (λ k. k) relation source word

-- the letters of the symbols are the first source of the word
pub record IsFirstSource (blocks : List ℕ) (paths : Automaton) (relation : Machine)
    (word symbols : List ℕ) : Type 0 where
  pub letters : List ℕ
  pub first : First (IsSource paths relation word) letters
  pub symbols_are : AreLeast blocks letters symbols

-- the row tells of a violation on this side: the first word of symbols with these letters, and its first source
abbrev pub TellsOf : List ℕ → Automaton → Machine → List ℕ → Side → Row → Type 0
TellsOf blocks paths relation letters side Compliant = ⊥
TellsOf blocks paths relation letters side (Violated word of source) =
    AreLeast blocks letters word × (of ≡ side) × IsFirstSource blocks paths relation letters source
TellsOf blocks paths relation letters side Undecided = ⊥
