use Rattle.std.proofs.Common.{◌≤◌, length, take}
use Rattle.rela_fib.specs.Steps.{ArePlaced}
use Rattle.rela_fib.proofs.devices.place_devices.Given as goal

-- no more devices than nodes
abbrev pub invariant-loop-node : goal.invariant-loop-node
invariant-loop-node l = ArePlaced l.locations (take l.node-index l.nodes) l.names.keys l.of_nodes.items × (length l.names.keys ≤ l.node-index)
