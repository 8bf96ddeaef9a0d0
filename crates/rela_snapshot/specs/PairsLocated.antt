-- Which pairs of flows have graphs whose nodes stand at locations of a level.
use Rattle.std.specs.Prelude.{ℕ, List, All, Option, IfSome}
use Rattle.rela_names.specs.declared.level.Level.{Level}
use Rattle.rela_snapshot.specs.declared.snapshot.Flow.{Flow}
use Rattle.rela_snapshot.specs.declared.pairing.FlowPair.{FlowPair}
use Rattle.rela_snapshot.specs.Located.{IsLocated}

-- each node of both graphs stands at one of the locations of these names
abbrev pub IsPairLocated : List (List ℕ) → Level → FlowPair → Type 0
IsPairLocated names level pair = IsLocated names level pair.before
    × IsLocated names level pair.after

abbrev pub ArePairsLocated : List (List ℕ) → Level → List FlowPair → Type 0
ArePairsLocated names level pairs = All (IsPairLocated names level) pairs

-- so does each node of the graphs of those flows that there are
abbrev pub AreFoundLocated : List (List ℕ) → Level → List (Option Flow) → Type 0
AreFoundLocated names level found = All (λ one.
    IfSome one (λ flow. IsLocated names level flow.graph)) found
