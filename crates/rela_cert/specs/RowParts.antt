-- What a row is judged by: the locations of its level, the paths of its flow, and its letters.
use Rattle.std.specs.Prelude.{◌≡◌, ℕ, List, length}
use Rattle.rela_blocks.specs.RowBlocks.{AreRowBlocks, symbols_of}
use Rattle.rela_blocks.specs.Scenes.{after_image, before_image, lettering_of, paths_of}
use Rattle.rela_build.specs.Lettering.{Lettering}
use Rattle.rela_build.specs.Made.{IsMade}
use Rattle.rela_build.specs.PathSets.{Paths}
use Rattle.rela_nfa.specs.Automaton.{Automaton}
use Rattle.rela_rir.specs.declared.term.PathTerm.{PathTerm}
use Rattle.rela_cert.specs.declared.row.Row.{Row}

-- how many locations its level has
abbrev pub locations_of : Row → ℕ
locations_of row = length row.alphabet.now

-- how many symbols its check has
abbrev pub symbols_at : Row → ℕ
symbols_at row = symbols_of row.check.now (locations_of row)

-- the paths of its flow at the level of its check
abbrev pub paths_at : Row → Paths
paths_at row =
    paths_of row.check.now.level row.alphabet.now row.pair.now.before row.pair.now.after

-- the letters of its check, where these are the blocks of the symbols
abbrev pub lettering_at : Row → List ℕ → Lettering
lettering_at row blocks = lettering_of row.check.now (locations_of row) blocks

-- the symbols are in these blocks, and the letters are those of the check
pub record HasLetters (row : Row) (letters : Lettering) : Type 0 where
  pub lettering : letters ≡ lettering_at row letters.blocks
  pub blocks : AreRowBlocks row.check.now row.alphabet.now row.pair.now.before row.pair.now.after
      letters.blocks

-- the terms of its two images
abbrev pub before_term : Row → PathTerm
before_term row = before_image row.check.now (locations_of row)

abbrev pub after_term : Row → PathTerm
after_term row = after_image row.check.now (locations_of row)

-- the automaton is that of the image of the paths before the change, and of those after it; where `exactly` holds, its
-- states tell places apart
abbrev pub IsBeforeImage : Type 0 → Row → List ℕ → Automaton → Type 0
IsBeforeImage exactly row blocks a =
    IsMade exactly (lettering_at row blocks) (paths_at row) (before_term row) a

abbrev pub IsAfterImage : Type 0 → Row → List ℕ → Automaton → Type 0
IsAfterImage exactly row blocks a =
    IsMade exactly (lettering_at row blocks) (paths_at row) (after_term row) a
