-- Numbers for the keys of a list, in the order in which the keys first come.
use Rattle.std.specs.Prelude.{◌≡◌, ℕ, ◌<◌, ◌≤◌, List, length, slice_index, Option, None, Some}
use Rattle.std.specs.List.{slice_index_or}
use Rattle.rela_labels.specs.Partition.{IsLeastOf}

-- the keys so far, the number that each key has got, the number at each place, and the first place of each number
pub record IsNumbering (keys : List ℕ) (numbers : List (Option ℕ))
    (blocks firsts : List ℕ) : Type 0 where
  pub len : length blocks ≡ length keys
  pub short : length firsts ≤ length blocks
  pub known : (s : ℕ) → s < length keys → slice_index_or numbers (slice_index keys s) None
      ≡ Some (slice_index blocks s)
  pub named : (key block : ℕ) → slice_index_or numbers key None ≡ Some block
      → (block < length firsts) × (slice_index keys (slice_index firsts block) ≡ key)
  pub first : (block : ℕ) → block < length firsts →
      IsLeastOf blocks block (slice_index firsts block)
  pub by_least : (s block : ℕ) → s < length blocks → block < slice_index blocks s
      → (r : ℕ) × (r < s) × (slice_index blocks r ≡ block)
