-- An automaton that reads blocks of symbols, over a finer partition.
use Rattle.std.specs.Prelude.{◌≡◌, ℕ, ◌<◌, Bool, List, length, map}
use Rattle.std.specs.Option.{option_map}
use Rattle.rela_labels.specs.Letters.{has}
use Rattle.rela_labels.specs.Partition.{block_of, Together}
use Rattle.rela_nfa.specs.Automaton.{Automaton, Move}

-- the fine partition is of the same symbols, and two that share a block of it share one of the coarse partition
pub record Refines (fine coarse : List ℕ) : Type 0 where
  pub same_symbols : length fine ≡ length coarse
  pub together : (s t : ℕ) → s < length fine → t < length fine → Together fine s t →
      Together coarse s t

-- a word of symbols, each read as its block
abbrev pub blocks_of : List ℕ → List ℕ → List ℕ
blocks_of partition word = map (block_of partition) word

-- for each letter whether the old letter in which it lies is in the set
abbrev pub relabelled : List ℕ → List Bool → List Bool
relabelled parents set = map (has set) parents

abbrev pub relabelled_move : List ℕ → Move → Move
relabelled_move parents move = record {
  label = option_map (relabelled parents) move.label;
  to = move.to;
}

-- the same automaton with other labels
pub record IsRelabelled (parents : List ℕ) (a r : Automaton) : Type 0 where
  pub letters : r.letters ≡ length parents
  pub start : r.start ≡ a.start
  pub finals : r.finals ≡ a.finals
  pub edges : r.edges ≡ map (map (relabelled_move parents)) a.edges
