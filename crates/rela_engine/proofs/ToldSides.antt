-- A row that tells of two sides by automata says what is so of the flow.
use Rattle.std.proofs.Common.{ℕ, List, sym, subst, inl, inr}
use Rattle.rela_labels.specs.Partition.{IsPartition}
use Rattle.rela_names.specs.Shortlex.{First}
use Rattle.rela_nfa.specs.Automaton.{Automaton}
use Rattle.rela_nfa.specs.Runs.{Accepts}
use Rattle.rela_report.specs.declared.rows.Row.{Row}
use Rattle.rela_report.specs.declared.rows.Side.{Side}
use Rattle.rela_report.specs.declared.rows.Side.TheVariants as side
use Rattle.rela_rir.specs.Words.{WordSet, Relation}
use Rattle.rela_trans.specs.Machine.{Machine}
use Rattle.rela_translate.specs.Checked.{Checked}
use Rattle.rela_translate.specs.Verdict.{Offends}
use Rattle.rela_build.specs.PathSets.{Paths}
use Rattle.rela_engine.specs.RowOf.{Says, words_of}
use Rattle.rela_engine.specs.Seen.{AreSeen, AreSides}
use Rattle.rela_engine.specs.ToldSides.{HasSources, TellsOfSides, TellsOnSide}
use Rattle.rela_engine.proofs.Rows.{after_row, before_row, compliant_row, letters_below, some_source}

-- what is seen of a side has a source for each word of the image
pub sources_of : (blocks : List ℕ) → IsPartition blocks → (words : WordSet) (pairs : Relation) (paths : Automaton) (relation : Machine) (image : Automaton)
    → AreSeen blocks words pairs paths relation image → HasSources blocks paths relation image
sources_of blocks is words pairs paths relation image seen = record {
  of_paths = seen.of_paths.letters;
  of_relation = seen.of_relation.letters;
  of_image = seen.of_image.letters;
  paths_ok = seen.paths_ok;
  below = letters_below blocks image seen.image_ok seen.of_image.letters;
  sources = some_source blocks is words pairs paths relation image seen;
}

module _ (blocks : List ℕ) (check : Checked) (locations : ℕ) (paths : Paths) (limit : ℕ)
    (pre_paths : Automaton) (pre_relation : Machine) (pre_image : Automaton) (post_paths : Automaton) (post_relation : Machine) (post_image : Automaton)
    (sides : AreSides blocks check locations paths.pre paths.post pre_paths pre_relation pre_image post_paths post_relation post_image) where
  -- a row that tells of the first offence on its side
  told_on : (of : Side) (letters : List ℕ) → First (Offends check.at_most (Accepts pre_image) (Accepts post_image)) letters
      → words_of of (Accepts pre_image) (Accepts post_image) letters
      → (row : Row) → TellsOnSide of blocks pre_paths pre_relation post_paths post_relation letters row → Says check locations paths limit row
  told_on side.Before letters first accepted row told =
      before_row blocks check locations paths limit pre_paths pre_relation pre_image post_paths post_relation post_image sides letters first accepted row told
  told_on side.After letters first accepted row told =
      after_row blocks check locations paths limit pre_paths pre_relation pre_image post_paths post_relation post_image sides letters first accepted row told

  pub sides_told : (row : Row) → TellsOfSides check.at_most blocks pre_paths pre_relation pre_image post_paths post_relation post_image row
      → Says check locations paths limit row
  sides_told row tells = elim tells [
    | inl met ↦ subst (λ (r : Row). Says check locations paths limit r) (sym met.0)
        (compliant_row blocks check locations paths limit pre_paths pre_relation pre_image post_paths post_relation post_image sides met.1)
    | inr told ↦ told_on told.of told.letters told.first told.accepted row told.told
  ]
