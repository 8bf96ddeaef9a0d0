use Rattle.std.proofs.Common.{◌≡◌, ℕ, ◌↔◌, length, take}
use Rattle.std.specs.List.{Contains}
use Rattle.rela_graph.specs.Topology.{HasFlag}
use Rattle.rela_graph.proofs.graph.flags_of.Given as goal

-- the flags of just those listed so far are set
abbrev pub invariant-loop-n : goal.invariant-loop-n
invariant-loop-n l = record {
  len : length l.flags.items ≡ l.count;
  set : (m : ℕ) → HasFlag l.flags.items m ↔ Contains (take l.n-index l.listed) m;
}
