-- A listed block but for the names of locations.
use Rattle.std.specs.Prelude.{◌≡◌, ℕ, Option, List, nat_eq}
use Rattle.std.specs.HashMap.{HashMap, get}
use Rattle.std.specs.List.{position}
use Rattle.rela_certfile.specs.declared.rows.Step.{Step}
use Rattle.rela_labels.specs.Partition.{block_of}
use Rattle.rela_cert.specs.declared.renamed_blocks.RenamedStep.{RenamedStep}

-- the first of the places that is the symbol, if one is, by its number
abbrev pub first_place : List ℕ → ℕ → Option ℕ
first_place places symbol = position (nat_eq symbol) places

-- by each symbol that is a place, the first such place
abbrev pub AreFirstPlaces : {S : Type 0} → List ℕ → HashMap ℕ ℕ S → Type 0
AreFirstPlaces places first = (symbol : ℕ) → get nat_eq first symbol ≡ first_place places symbol

-- the step by the block of its symbol, and the first of the places that is the symbol
abbrev pub renamed_step : List ℕ → List ℕ → Step → RenamedStep
renamed_step blocks places step = record {
  parent = step.parent;
  block = block_of blocks step.symbol;
  node = first_place places step.symbol;
}
