-- The places of flows that are renamed one to one, and the symbols for `drop` and `loop`, which stay.
use Rattle.std.proofs.Common.{◌≡◌, ◌≢◌, ◌∙◌, ℕ, ◌+◌, ◌<◌, ◌≤◌, List, [], ◌∷◌, ◌++◌, length, map, refl, sym, arith}
use Rattle.std.specs.List.{All}
use Rattle.std.proofs.lemmas.List.{length-map, map-append, get_or_default}
use Rattle.std.proofs.lemmas.List.Elements.{All-head, All-tail, All-cons, All-append, All-map, All-weaker}
use Rattle.rela_build.specs.Reading.{read_by}
use Rattle.rela_labels.specs.Partition.{block_of, block_count}
use Rattle.rela_names.specs.declared.level.Level.{Level}
use Rattle.rela_graph.specs.Paths.{locations}
use Rattle.rela_graph.specs.Topology.{Topology, symbol_at}
use Rattle.rela_snapshot.specs.Located.{IsLocated, StandsAt}
use Rattle.rela_snapshot.specs.PairsLocated.{IsPairLocated}
use Rattle.rela_snapshot.specs.declared.pairing.FlowPair.{FlowPair}
use Rattle.rela_shape.specs.Shape.{places_of}
use Rattle.rela_shape.specs.Renamed.{AreRenamed}
use Rattle.rela_shape.proofs.Renaming.{Renaming, renames, one_stays}

-- a symbol of the partition is read as its block
read_as_blocks : (blocks xs : List ℕ) → All (λ s. s < length blocks) xs → map (read_by blocks) xs ≡ map (block_of blocks) xs
read_as_blocks blocks [] within = refl
read_as_blocks blocks (x ∷ xs) within =
    let first = get_or_default blocks x (block_count blocks) 0 (All-head (λ s. s < length blocks) x xs within) in
    let rest = read_as_blocks blocks xs (All-tail (λ s. s < length blocks) x xs within) in
    (λ i. first i ∷ rest i)

locations_within : (names : List (List ℕ)) (level : Level) (g : Topology) → IsLocated names level g → All (λ s. s < length names) (locations g level)
unfolding StandsAt
locations_within names level g located = All-map (λ s. s < length names) (symbol_at level) g.nodes located

places_within : (names : List (List ℕ)) (level : Level) (pair : FlowPair) → IsPairLocated names level pair
    → All (λ s. s < length names) (places_of level pair)
places_within names level pair located =
    All-append (λ s. s < length names) (locations pair.before level) (locations pair.after level)
    (locations_within names level pair.before located.0) (locations_within names level pair.after located.1)

-- lists in two parts, of which the first are of one length, are equal part by part
parts_equal : (xs ys us vs : List ℕ) → length xs ≡ length us → xs ++ ys ≡ us ++ vs → (xs ≡ us) × (ys ≡ vs)
parts_equal [] ys [] vs long e = (refl, e)
parts_equal [] ys (u ∷ us) vs long e = absurd (omega arith)
parts_equal (x ∷ xs) ys [] vs long e = absurd (omega arith)
parts_equal (x ∷ xs) ys (u ∷ us) vs long e =
    let head : x ≡ u = cc in
    let tail : xs ++ ys ≡ us ++ vs = cc in
    let rest = parts_equal xs ys us vs (omega arith) tail in
    (λ i. head i ∷ rest.0 i, rest.1)

-- the symbols for `drop` and `loop`, and then the places
abbrev pub ends_and : ℕ → List ℕ → List ℕ
ends_and n places = n ∷ ((n + 1) ∷ places)

module _ (blocks : List ℕ) (level : Level) (names : List (List ℕ)) (pair other : FlowPair)
    (enough : length names ≤ length blocks) (located : IsPairLocated names level pair) (other_located : IsPairLocated names level other)
    (renamed : AreRenamed blocks level pair other) where
  read_alike : map (read_by blocks) (places_of level pair) ≡ map (read_by blocks) (places_of level other)
  read_alike =
      let within : All (λ s. s < length blocks) (places_of level pair) =
      All-weaker (λ s. s < length names) (λ s. s < length blocks) (λ s below. omega arith) (places_of level pair) (places_within names level pair located) in
      let other_within : All (λ s. s < length blocks) (places_of level other) =
      All-weaker (λ s. s < length names) (λ s. s < length blocks) (λ s below. omega arith) (places_of level other) (places_within names level other other_located) in
      read_as_blocks blocks (places_of level pair) within ∙ renamed.blocks_are ∙ sym (read_as_blocks blocks (places_of level other) other_within)

  places_renamed : Renaming (read_by blocks) (places_of level pair) (places_of level other)
  places_renamed = renames (read_by blocks) (places_of level pair) (places_of level other) read_alike renamed.together

  -- no location is a symbol past the names
  apart : (s : ℕ) → length names ≤ s → (flow : FlowPair) → IsPairLocated names level flow → All (λ t. t ≢ s) (places_of level flow)
  apart s past flow is =
      All-weaker (λ t. t < length names) (λ t. t ≢ s) (λ t below e. omega arith) (places_of level flow) (places_within names level flow is)

  pub renaming : Renaming (read_by blocks) (ends_and (length names) (places_of level pair)) (ends_and (length names) (places_of level other))
  renaming =
      let n = length names in
      let loops : Renaming (read_by blocks) ((n + 1) ∷ places_of level pair) ((n + 1) ∷ places_of level other) =
      one_stays (read_by blocks) (places_of level pair) (places_of level other) places_renamed (n + 1)
      (apart (n + 1) (omega arith) pair located) (apart (n + 1) (omega arith) other other_located) in
      one_stays (read_by blocks) ((n + 1) ∷ places_of level pair) ((n + 1) ∷ places_of level other) loops n
      (All-cons (λ t. t ≢ n) (n + 1) (places_of level pair) (λ e. omega arith) (apart n (omega arith) pair located))
      (All-cons (λ t. t ≢ n) (n + 1) (places_of level other) (λ e. omega arith) (apart n (omega arith) other other_located))

-- the renaming keeps `drop` and `loop`, and sends the locations of one flow's nodes to those of the other's
pub record Relocates (names : List (List ℕ)) (level : Level) (pair other : FlowPair) (to : ℕ → ℕ) : Type 0 where
  pub drops : to (length names) ≡ length names
  pub loops : to (length names + 1) ≡ length names + 1
  pub before : map to (locations pair.before level) ≡ locations other.before level
  pub after : map to (locations pair.after level) ≡ locations other.after level

pub relocates : (names : List (List ℕ)) (level : Level) (pair other : FlowPair) (to : ℕ → ℕ) → length pair.before.nodes ≡ length other.before.nodes
    → map to (ends_and (length names) (places_of level pair)) ≡ ends_and (length names) (places_of level other) → Relocates names level pair other to
relocates names level pair other to as_many sends =
    let n = length names in
    let drops : to n ≡ n = cc in
    let loops : to (n + 1) ≡ n + 1 = cc in
    let places : map to (places_of level pair) ≡ places_of level other = cc in
    let split : map to (locations pair.before level) ++ map to (locations pair.after level)
    ≡ locations other.before level ++ locations other.after level = sym (map-append to (locations pair.before level) (locations pair.after level)) ∙ places in
    let long : length (map to (locations pair.before level)) ≡ length (locations other.before level) =
    length-map (locations pair.before level) to ∙ length-map pair.before.nodes (symbol_at level) ∙ as_many
    ∙ sym (length-map other.before.nodes (symbol_at level)) in
    let parts = parts_equal (map to (locations pair.before level)) (map to (locations pair.after level)) (locations other.before level)
    (locations other.after level) long split in
    record { drops = drops; loops = loops; before = parts.0; after = parts.1 }
