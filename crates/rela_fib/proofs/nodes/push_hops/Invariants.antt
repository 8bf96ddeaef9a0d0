use Rattle.std.proofs.Common.{◌≡◌, ◌++◌, take}
use Rattle.std.specs.List.{flat_map}
use Rattle.rela_fib.specs.Graph.{hops_in}
use Rattle.rela_fib.proofs.nodes.push_hops.Given as goal

abbrev pub invariant-loop-table : goal.invariant-loop-table
invariant-loop-table l = l.interfaces.items ≡ l.initial.interfaces.items ++ flat_map hops_in (take l.table-index l.tables)
