-- Flows that look the same at a level.
use Rattle.std.specs.Prelude.{◌≡◌, ℕ, ◌<◌, ◌&&◌, Bool, List, length, slice_index, slice_index_or, Some}
use Rattle.std.specs.HashMap.{HashMap, get}
use Rattle.rela_graph.specs.Outline.{Outline, outline_of, same_outline}
use Rattle.rela_names.specs.declared.level.Level.{Level}
use Rattle.rela_snapshot.specs.declared.pairing.FlowPair.{FlowPair}

-- how the graphs of a flow look at a level, before and after the change
abbrev pub look_of : Level → FlowPair → Outline × Outline
look_of level pair = (outline_of level pair.before, outline_of level pair.after)

-- whether two looks are equal
abbrev pub same_look : Outline × Outline → Outline × Outline → Bool
same_look x y = same_outline x.0 y.0 && same_outline x.1 y.1

-- the flow of this number looks like this
abbrev pub HasLook : Level → List FlowPair → ℕ → Outline × Outline → Type 0
HasLook level pairs n look = (n < length pairs)
    × ((d : FlowPair) → look_of level (slice_index_or pairs n d) ≡ look)

-- the number of each look is that of a flow that has it
abbrev pub AreNumbered : {S : Type 0} → Level → List FlowPair →
    HashMap (Outline × Outline) ℕ S → Type 0
AreNumbered level pairs numbers = (look : Outline × Outline) (n : ℕ) → get same_look numbers look
    ≡ Some n → HasLook level pairs n look

-- flow n looks the same as the flow of the other number
abbrev pub LooksAs : Level → List FlowPair → ℕ → ℕ → Type 0
LooksAs level pairs n other =
    (other < length pairs) × ((d : FlowPair) → look_of level (slice_index_or pairs n d)
    ≡ look_of level (slice_index_or pairs other d))

-- for each flow the number of one that looks the same
pub record AreAlike (level : Level) (pairs : List FlowPair) (others : List ℕ) : Type 0 where
  pub len : length others ≡ length pairs
  pub each : (n : ℕ) → n < length pairs → LooksAs level pairs n (slice_index others n)
