-- What a row tells of two sides, each seen as automata: its paths, its relation, and the image.
use Rattle.std.specs.Prelude.{◌≡◌, ℕ, ◌<◌, ◌⊎◌, Bool, List, All}
use Rattle.rela_labels.specs.Partition.{block_count}
use Rattle.rela_names.specs.Shortlex.{First}
use Rattle.rela_nfa.specs.Automaton.{Automaton, IsAutomaton}
use Rattle.rela_nfa.specs.Runs.{Accepts}
use Rattle.rela_report.specs.declared.rows.Row.{Row}
use Rattle.rela_report.specs.declared.rows.Row.TheVariants.{Compliant}
use Rattle.rela_report.specs.declared.rows.Side.{Side}
use Rattle.rela_report.specs.declared.rows.Side.TheVariants as side
use Rattle.rela_trans.specs.Machine.{Machine}
use Rattle.rela_translate.specs.Verdict.{AreMet, Offends}
use Rattle.rela_engine.specs.RowOf.{words_of}
use Rattle.rela_engine.specs.Seen.{IsSource, TellsOf}

-- the letters of all three are the blocks, and each word of the image has a source among the paths
pub record HasSources (blocks : List ℕ) (paths : Automaton) (relation : Machine)
    (image : Automaton) : Type 0 where
  pub of_paths : paths.letters ≡ block_count blocks
  pub of_relation : relation.letters ≡ block_count blocks
  pub of_image : image.letters ≡ block_count blocks
  pub paths_ok : IsAutomaton paths
  pub below : (word : List ℕ) → Accepts image word → All (λ k. k < block_count blocks) word
  pub sources : (word : List ℕ) → Accepts image word →
      (source : List ℕ) × IsSource paths relation word source

-- the row tells of a violation on this side, by the side's paths and its relation
abbrev pub TellsOnSide : Side → List ℕ → Automaton → Machine → Automaton → Machine → List ℕ → Row → Type 0
TellsOnSide side.Before blocks pre_paths pre_relation post_paths post_relation letters row =
    TellsOf blocks pre_paths pre_relation letters side.Before row
TellsOnSide side.After blocks pre_paths pre_relation post_paths post_relation letters row =
    TellsOf blocks post_paths post_relation letters side.After row

-- the row tells of the first word that offends, on a side whose image has it
pub record TellsOfFirst (at_most : Bool) (blocks : List ℕ)
    (pre_paths : Automaton) (pre_relation : Machine) (pre_image : Automaton)
    (post_paths : Automaton) (post_relation : Machine) (post_image : Automaton) (row : Row) : Type 0 where
  pub letters : List ℕ
  pub of : Side
  pub first : First (Offends at_most (Accepts pre_image) (Accepts post_image)) letters
  pub accepted : words_of of (Accepts pre_image) (Accepts post_image) letters
  pub told : TellsOnSide of blocks pre_paths pre_relation post_paths post_relation letters row

-- the row is compliant and no word offends, or it tells of the first that does
abbrev pub TellsOfSides : Bool → List ℕ → Automaton → Machine → Automaton
    → Automaton → Machine → Automaton → Row → Type 0
TellsOfSides at_most blocks pre_paths pre_relation pre_image post_paths post_relation post_image row =
    ((row ≡ Compliant) × AreMet at_most (Accepts pre_image) (Accepts post_image))
    ⊎ TellsOfFirst at_most blocks pre_paths pre_relation pre_image post_paths post_relation post_image row
