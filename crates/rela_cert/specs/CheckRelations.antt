-- What is made of a check once for many of its rows, and its relations over the blocks of one row.
use Rattle.std.specs.Prelude.{◌≡◌, ℕ, ◌↔◌, None, List, ◌++◌, map}
use Rattle.std.specs.Option.{unwrap_or}
use Rattle.rela_blocks.specs.FlowName.{paths_at}
use Rattle.rela_blocks.specs.RowBlocks.{AreCheckBlocks}
use Rattle.rela_blocks.specs.Scenes.{lettering_of}
use Rattle.rela_build.specs.Lettering.{AreLetterBlocks}
use Rattle.rela_build.specs.Made.{IsMade, IsMadeR, Leads, LeadsR}
use Rattle.rela_build.specs.PathSets.{no_paths}
use Rattle.rela_build.specs.Reading.{read_by}
use Rattle.rela_certfile.specs.declared.rows.Step.{Step}
use Rattle.rela_graph.specs.Outline.{outline_of}
use Rattle.rela_labels.specs.Partition.{block_count}
use Rattle.rela_nfa.specs.Automaton.{Automaton, IsAutomaton}
use Rattle.rela_nfa.specs.Runs.{Accepts}
use Rattle.rela_pairs.specs.declared.pair.Pair.{Pair}
use Rattle.rela_rir.specs.Fixed.{IsFixedR}
use Rattle.rela_rir.specs.declared.term.PathTerm.{PathTerm}
use Rattle.rela_rir.specs.declared.term.RelTerm.{RelTerm}
use Rattle.rela_trans.specs.Composition.{Covers}
use Rattle.rela_trans.specs.Images.{IsImage}
use Rattle.rela_trans.specs.Machine.{Machine, IsMachine}
use Rattle.rela_trans.specs.Runs.{Relates}
use Rattle.rela_translate.specs.Checked.{Checked}
use Rattle.rela_translate.specs.Terms.{after_of, before_of}
use Rattle.rela_cert.specs.declared.check_parts.CheckParts.{CheckParts}
use Rattle.rela_cert.specs.declared.check_relations.CheckRelations.{CheckRelations}
use Rattle.rela_cert.specs.declared.row.Row.{Row}
use Rattle.rela_cert.specs.RowNames.{RowName}

-- the blocks are those of the check's symbols, and the terms are those of its two relations
pub record AreCheckParts (check : Checked) (locations : ℕ) (parts : CheckParts) : Type 0 where
  pub blocks : AreCheckBlocks check locations parts.blocks
  pub before : parts.terms.before ≡ before_of locations check.body
  pub after : parts.terms.after ≡ after_of locations check.body

-- The transducers are those of the check's two relations over these blocks, and their states tell places apart. Where
-- there is one alone, both relations have one term. The relations name no path set, so no flow is asked for.
pub record AreCheckRelations (check : Checked) (locations : ℕ) (blocks : List ℕ)
    (relations : CheckRelations) : Type 0 where
  pub before : IsMadeR (Unit {0}) (lettering_of check locations blocks) no_paths
      (before_of locations check.body) relations.before
  pub after : IsMadeR (Unit {0}) (lettering_of check locations blocks) no_paths
      (after_of locations check.body) (unwrap_or relations.after relations.before)
  pub alone : relations.after ≡ None →
      before_of locations check.body ≡ after_of locations check.body

-- the blocks are some blocks, and then the same again
abbrev pub AreRepeated : List (List Step) → Type 0
AreRepeated blocks = (half : List (List Step)) × (blocks ≡ half ++ half)

-- one relation serves both sides of the change, and the flow's graphs look the same on both
abbrev pub IsAlike : Row → CheckRelations → Type 0
IsAlike row relations =
    (relations.after ≡ None)
    × (outline_of row.check.now.level row.pair.now.before
    ≡ outline_of row.check.now.level row.pair.now.after)

-- Over the fine blocks u has the states that t has over the coarse ones, for words of symbols that lead to a state of the
-- automaton: with another word they lead to the same states of both, and those that it accepts are related to the same
-- words.
pub record IsRefined (coarse fine : List ℕ) (words : Automaton) (t u : Machine) : Type 0 where
  pub machine : IsMachine u
  pub letters : u.letters ≡ block_count fine
  pub reached : (p q : ℕ) (v w : List ℕ) → Leads fine words p v →
      LeadsR fine u q v w ↔ LeadsR coarse t q v w
  pub relation : (v w : List ℕ) → Accepts words (map (read_by fine) v) →
      Relates (read_by fine) u v w ↔ Relates (read_by coarse) t v w

-- In a named scene, `words` is the automaton of the term x over the fine blocks. The transducer t is that of the term r
-- over the coarse ones, and u is t over the fine ones, as far as these words go. The term r names no path set.
pub record IsReadBy (at : RowName) (coarse fine : List ℕ) (x : PathTerm) (r : RelTerm)
    (words : Automaton) (t u : Machine) : Type 0 where
  pub letters : AreLetterBlocks (lettering_of at.check at.locations fine)
  pub made : IsMade (Unit {0}) (lettering_of at.check at.locations fine) (paths_at at.flow) x
      words
  pub fixed : IsFixedR r
  pub relation : IsMadeR (Unit {0}) (lettering_of at.check at.locations coarse) no_paths r t
  pub refined : IsRefined coarse fine words t u

-- the automaton is that of the words that t writes for those of the other one, by pairs of their states
pub record IsWrittenBy (t : Machine) (words image : Automaton) : Type 0 where
  pub automaton : IsAutomaton image
  pub letters : image.letters ≡ words.letters
  pub pairs : (pairs : List Pair) × IsImage words t pairs image
  pub language : (read : ℕ → ℕ) → Covers read words.letters → (w : List ℕ) →
      Accepts image (map read w)
      ↔ ((source : List ℕ) × Accepts words (map read source) × Relates read t source w)
