-- Automata over blocks of symbols, as automata over the symbols.
use Rattle.std.specs.Prelude.{◌≡◌, ℕ, ◌<◌, ◌↔◌, List, map}
use Rattle.std.specs.List.{range_with_len}
use Rattle.rela_build.specs.Reading.{read_by, HoldsJust}
use Rattle.rela_labels.specs.Partition.{block_of}
use Rattle.rela_minimise.specs.Classes.{IsMinimal}
use Rattle.rela_rir.specs.Meaning.{IsPathWord}
use Rattle.rela_subset.specs.Deterministic.{Deterministic, IsByArrival, IsDeterministic, IsFinal, IsReachable, next, state_after, states}
use Rattle.rela_engine.specs.SymbolAutomata.{SymbolAutomaton}

-- the state to which each of the first n symbols leads from q, by its block
abbrev pub spelled_row : List ℕ → ℕ → Deterministic → ℕ → List ℕ
spelled_row blocks n d q = map (λ s. next d q (block_of blocks s)) (range_with_len 0 n)

-- the same states, to which the first n symbols lead by their blocks
abbrev pub spelled : List ℕ → ℕ → Deterministic → SymbolAutomaton
spelled blocks n d = record {
  accepts = d.finals;
  rows = map (spelled_row blocks n d) (range_with_len 0 (states d));
}

-- it reads the blocks of the first n symbols; of the words of these it accepts those of the set; and no two of its
-- states accept the same words, each is reached, and they are numbered as words first arrive at them
pub record IsLeastBy (blocks : List ℕ) (n : ℕ) (words : List ℕ → Type 0)
    (d : Deterministic) : Type 0 where
  pub deterministic : IsDeterministic d
  pub over : HoldsJust blocks (λ s. s < n) d.over
  pub start : d.start ≡ 0
  pub language : (word : List ℕ) → IsPathWord n word → IsFinal d (state_after d (map
      (read_by blocks) word)) ↔ words word
  pub reached : IsReachable d
  pub minimal : IsMinimal d
  pub arrival : IsByArrival d
