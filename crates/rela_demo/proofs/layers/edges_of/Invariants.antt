use Rattle.std.proofs.Common.{◌≡◌, ◌-◌}
use Rattle.std.specs.List.{flat_map, range_with_len}
use Rattle.rela_demo.specs.Layers.{edges_into}
use Rattle.rela_demo.proofs.layers.edges_of.Given as goal

abbrev pub invariant-loop-layer : goal.invariant-loop-layer
invariant-loop-layer l = l.edges.items ≡ flat_map edges_into (range_with_len 2 (l.layer - 2))
