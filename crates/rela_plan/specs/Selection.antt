-- Which flows of a block predicates select: the bit at the place of a flow is 1 where they do.
use Rattle.std.specs.Prelude.{◌≡◌, ℕ, ◌<◌, ◌≤◌, ◌↔◌, List, length, take, drop, slice_index_or, Option, IfSome}
use Rattle.std.specs.Int.{bit_at}
use Rattle.std.specs.List.{All, AllZip}
use Rattle.rela_flows.specs.Selects.{Selects}
use Rattle.rela_flows.specs.declared.predicate.Predicate.{Predicate}
use Rattle.rela_plan.specs.declared.known.Known.{Known}
use Rattle.rela_snapshot.specs.declared.pairing.FlowPair.{FlowPair}
use Rattle.rela_translate.specs.Checked.{Checked}

-- the block of at most 64 flows that begins with the flow of this number
abbrev pub block_at : ℕ → List FlowPair → List FlowPair
block_at first pairs = take 64 (drop first pairs)

-- the bit at the place is 1
abbrev pub HasFlow : ℕ → ℕ → Type 0
HasFlow flows place = bit_at flows place ≡ 1

-- of the flows of the block, the bits of those are 1 that the predicate selects
abbrev pub IsSelection : List FlowPair → Predicate → ℕ → Type 0
IsSelection block predicate flows = (place : ℕ) (d : FlowPair) → place < length block →
    HasFlow flows place ↔ Selects predicate (slice_index_or block place d).class

-- of the flows of the block that are asked, the bits of those are 1 that the predicate selects
abbrev pub IsAnswer : List FlowPair → ℕ → Predicate → ℕ → Type 0
IsAnswer block asked predicate flows = (place : ℕ) (d : FlowPair) → place < length block →
    HasFlow flows place
    ↔ (HasFlow asked place × Selects predicate (slice_index_or block place d).class)

-- for each check the flows of the block that it selects
abbrev pub AreSelections : List FlowPair → List Checked → List ℕ → Type 0
AreSelections block checks = AllZip (λ check flows. IsSelection block check.when flows) checks

-- the flows of the block have bits, there is room for a leaf, and what is known of leaves is right
pub record AreKnown (block : List FlowPair) (known : List (Option Known)) : Type 0 where
  pub few : length block ≤ 64
  pub room : 0 < length known
  pub right : All (λ slot. IfSome slot (λ one.
      IsAnswer block one.asked one.leaf.now one.flows)) known
