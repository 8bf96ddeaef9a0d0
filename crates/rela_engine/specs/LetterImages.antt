-- Automata with one letter on each edge, whose letters are blocks of symbols, and what two such images tell.
use Rattle.std.specs.Prelude.{◌≡◌, ℕ, ◌<◌, ◌↔◌, Bool, List, All, length, map, slice_index}
use Rattle.rela_build.specs.Reading.{read_by}
use Rattle.rela_labels.specs.Partition.{block_count, block_of}
use Rattle.rela_letter_image.specs.Coarse.{coarse_of}
use Rattle.rela_letter_nfa.specs.LetterAutomaton.{LetterAutomaton}
use Rattle.rela_letter_nfa.specs.Runs.{Accepts}
use Rattle.rela_names.specs.Shortlex.{First}
use Rattle.rela_report.specs.declared.rows.Row.{Row}
use Rattle.rela_report.specs.declared.rows.Row.TheVariants.{Compliant, Violated, Undecided}
use Rattle.rela_report.specs.declared.rows.Side.{Side}
use Rattle.rela_rir.specs.Words.{WordSet, Relation, ImageOf}
use Rattle.rela_trans.specs.Machine.{Machine}
use Rattle.rela_trans.specs.Runs.{Relates}
use Rattle.rela_translate.specs.Checked.{Checked}
use Rattle.rela_translate.specs.Verdict.{AreMet, Meets, Offending, Offends}
use Rattle.rela_engine.specs.RowOf.{words_of, relation_of}
use Rattle.rela_engine.specs.Seen.{AreLeast}
use Rattle.rela_engine.specs.declared.told.Told.{Told}
use Rattle.rela_engine.specs.declared.told.Told.TheVariants.{Met, Differ, Open}

-- the words of symbols that are accepted, each symbol read as its block, are those of the set
abbrev pub ReadsJust : List ℕ → WordSet → LetterAutomaton → Type 0
ReadsJust blocks words a = (w : List ℕ) → Accepts a (map (read_by blocks) w) ↔ words w

-- the words that are accepted have blocks alone as letters, and are those of the set
pub record IsReadOver (blocks : List ℕ) (words : WordSet) (a : LetterAutomaton) : Type 0 where
  pub reads : ReadsJust blocks words a
  pub below : (v : List ℕ) → Accepts a v → All (λ k. k < block_count blocks) v

-- the automaton has just the words that the transducer relates to the paths, whose letters lie in those that are listed
abbrev pub IsImageUnder : List ℕ → LetterAutomaton → Machine → LetterAutomaton → Type 0
IsImageUnder parents paths t image =
    (v : List ℕ) → Accepts image v
    ↔ ((u : List ℕ) × Accepts paths u × Relates (coarse_of t.letters parents) t u v)

-- the list gives for each block of the fine partition the block of the coarse one in which it lies
pub record AreParents (coarse fine parents : List ℕ) : Type 0 where
  pub each : length parents ≡ block_count fine
  pub parent : (s : ℕ) → s < length fine →
      slice_index parents (block_of fine s) ≡ block_of coarse s

-- these are the letters of the first word that offends, and the image on this side has each word with these letters
pub record IsFirstOffence (check : Checked) (locations : ℕ) (pre post : List ℕ → Type 0)
    (blocks letters : List ℕ) (side : Side) : Type 0 where
  pub below : All (λ k. k < block_count blocks) letters
  pub first : (word : List ℕ) → AreLeast blocks letters word →
      First (Offending check locations pre post) word
  pub in_image : (word : List ℕ) → map (read_by blocks) word ≡ letters →
      ImageOf (words_of side pre post) (relation_of side check locations) word

-- what is told of the words of letters of two images
abbrev pub TellsOfImages : Bool → WordSet → WordSet → Told → Type 0
TellsOfImages at_most A B Met = AreMet at_most A B
TellsOfImages at_most A B (Differ offence) =
    First (Offends at_most A B) offence.letters × words_of offence.side A B offence.letters
TellsOfImages at_most A B Open = Unit {0}

-- what is told of a check and the paths of a flow, where letters are these blocks
abbrev pub TellsOfFlow : Checked → ℕ → WordSet → WordSet → List ℕ → Told → Type 0
TellsOfFlow check locations pre post blocks Met = Meets check locations pre post
TellsOfFlow check locations pre post blocks (Differ offence) =
    IsFirstOffence check locations pre post blocks offence.letters offence.side
TellsOfFlow check locations pre post blocks Open = Unit {0}

-- the row tells of a violation on this side: the first word of symbols with these letters, and the first of the
-- words that is related to it
abbrev pub TellsFirst : List ℕ → WordSet → Relation → List ℕ → Side → Row → Type 0
TellsFirst blocks words pairs letters side Compliant = ⊥
TellsFirst blocks words pairs letters side (Violated word of source) =
    AreLeast blocks letters word × (of ≡ side) × First (λ path. words path × pairs path word) source
TellsFirst blocks words pairs letters side Undecided = ⊥

-- the row tells of a violation on this side: the first words of symbols with these letters, and with those of the source
abbrev pub TellsSource : List ℕ → List ℕ → Side → List ℕ → Row → Type 0
TellsSource blocks letters side source Compliant = ⊥
TellsSource blocks letters side source (Violated word of path) =
    AreLeast blocks letters word × (of ≡ side) × AreLeast blocks source path
TellsSource blocks letters side source Undecided = ⊥
