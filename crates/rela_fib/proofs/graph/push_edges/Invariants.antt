use Rattle.std.proofs.Common.{◌≡◌, ◌++◌, take}
use Rattle.rela_fib.specs.Graph.{edges_to}
use Rattle.rela_fib.specs.Text.{edge_data}
use Rattle.rela_fib.specs.Writing.{entries_text}
use Rattle.rela_fib.proofs.graph.push_edges.Given as goal

abbrev pub invariant-loop-place : goal.invariant-loop-place
invariant-loop-place l = l.text.items ≡ l.initial.text.items ++ entries_text edge_data (edges_to l.from (take l.place-index l.to))
