use Rattle.std.proofs.Common.{◌≡◌, ◌++◌, take}
use Rattle.std.specs.List.{flat_map}
use Rattle.rela_fib.specs.Graph.{hops_of}
use Rattle.rela_fib.proofs.nodes.push_each.Given as goal

abbrev pub invariant-loop-route : goal.invariant-loop-route
invariant-loop-route l = l.interfaces.items ≡ l.initial.interfaces.items ++ flat_map hops_of (take l.route-index l.routes)
