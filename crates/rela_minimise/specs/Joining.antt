-- Edges of which one leads to each class.
use Rattle.std.specs.Prelude.{◌≡◌, ℕ, ◌+◌, ◌<◌, Bool, List, [], length, map, count_by, Some, IsSome, Contains, slice_index, slice_index_or, if◌then◌else◌}
use Rattle.std.specs.List.{All}
use Rattle.std.specs.Option.{ForSome}
use Rattle.rela_labels.specs.Letters.{has}
use Rattle.rela_nfa.specs.Automaton.{Move}
use Rattle.rela_subset.specs.Deterministic.{Deterministic, moves_of, takes, target}
use Rattle.rela_minimise.specs.Classes.{finality, onto}

-- the edge has no label of another size
abbrev pub HasSize : ℕ → Move → Type 0
HasSize size move = ForSome move.label (λ set. length set ≡ size)

-- the letters of the label, which was in no label before, lead to the class, and others where they led
pub record IsPut (label : List Bool) (to : ℕ) (old new : List Move) : Type 0 where
  pub counts : (k : ℕ) → count_by (takes k) new
      ≡ count_by (takes k) old + (if has label k then 1 else 0)
  pub leads : (k : ℕ) → target new k ≡ (if has label k then Some to else target old k)
  pub sized : All (HasSize (length label)) new
  pub labelled : All (λ move. IsSome move.label) old → All (λ move. IsSome move.label) new
  pub within : (classes : List ℕ) → Contains classes to →
      All (λ move. Contains classes move.to) old → All (λ move. Contains classes move.to) new

-- each letter leads to the class of the state to which it led, and is in as many labels as it was
pub record AreOnto (size : ℕ) (classes : List ℕ) (moves joined : List Move) : Type 0 where
  pub split : (k : ℕ) → count_by (takes k) joined ≡ count_by (takes k) moves
  pub leads : (k : ℕ) → target joined k ≡ target (map (onto classes) moves) k
  pub sized : All (HasSize size) joined
  pub labelled : All (λ move. IsSome move.label) joined
  pub within : All (λ move. Contains classes move.to) joined

-- the edges of each class are those of its head, to classes
pub record HaveEdgesOnto (d : Deterministic) (classes heads : List ℕ)
    (edges : List (List Move)) : Type 0 where
  pub each : length edges ≡ length heads
  pub onto : (c : ℕ) → c < length heads → AreOnto (length d.over) classes
      (moves_of d (slice_index heads c)) (slice_index_or edges c [])

-- one state for each class, which is final as its head, and whose edges are those of its head, to classes
pub record IsQuotient (d : Deterministic) (classes heads : List ℕ)
    (r : Deterministic) : Type 0 where
  pub over : r.over ≡ d.over
  pub start : r.start ≡ slice_index classes d.start
  pub finals : r.finals ≡ map (finality d) heads
  pub edges : HaveEdgesOnto d classes heads r.edges
