-- Sets of states in buckets, by their hashes.
use Rattle.std.specs.Prelude.{◌≡◌, ℕ, ◌+◌, ◌-◌, ◌*◌, ◌/◌, ◌%◌, ◌^◌, ◌<◌, ◌≤◌, List, [], length, map, fold, bit_and, bit_xor, slice_index, slice_index_or}
use Rattle.std.specs.List.{All}
use Rattle.rela_letter_nfa.specs.Parting.{part}
use Rattle.rela_letter_nfa.specs.declared.state_sets.Placed.{Placed}

-- the number with another mixed in
abbrev pub mixed : ℕ → ℕ → ℕ
mixed hash q = (bit_xor hash q * 0x9E3779B97F4A7C15) % 2 ^ 64

-- of so many buckets, a power of two, that of the set
abbrev pub bucket_of : ℕ → List ℕ → ℕ
bucket_of count set = bit_and (fold mixed 0 set / 2 ^ 32) (count - 1)

-- one more than the number of the last of the first n sets that are in the bucket, and 0 where none is
pub record IsLastIn (sets : List (List ℕ)) (count n bucket last : ℕ) : Type 0 where
  pub upto : last ≤ n
  pub own : (i : ℕ) → last ≡ i + 1 → bucket_of count (slice_index_or sets i []) ≡ bucket
  pub all : (i : ℕ) → i < n → bucket_of count (slice_index_or sets i []) ≡ bucket → i < last

-- the last set of each bucket, and for each set the one before it in its bucket
pub record AreBucketed (sets : List (List ℕ)) (before lasts : List ℕ) : Type 0 where
  pub some : 0 < length lasts
  pub each : length before ≡ length sets
  pub last_of : (k : ℕ) → k < length lasts →
      IsLastIn sets (length lasts) (length sets) k (slice_index lasts k)
  pub earlier : (i : ℕ) → i < length sets → IsLastIn sets (length lasts) i
      (bucket_of (length lasts) (slice_index_or sets i [])) (slice_index before i)

-- the sets that stand at these places among the items
abbrev pub sets_at : List ℕ → List Placed → List (List ℕ)
sets_at items placed = map (λ place. part items place.from place.to) placed

abbrev pub befores : List Placed → List ℕ
befores placed = map (λ place. place.before) placed

-- each stands among so many items
abbrev pub AreWithin : ℕ → List Placed → Type 0
AreWithin count placed = All (λ place. (place.from ≤ place.to) × (place.to ≤ count)) placed
