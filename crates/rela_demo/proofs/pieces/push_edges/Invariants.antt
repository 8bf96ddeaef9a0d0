use Rattle.std.proofs.Common.{take}
use Rattle.serde_json.specs.Written.{compact_text}
use Rattle.rela_graph.specs.declared.node.Link.{Link}
use Rattle.rela_demo.specs.Text.{edge_data}
use Rattle.rela_demo.proofs.Arrays.{Opened}
use Rattle.rela_demo.proofs.pieces.push_edges.Given as goal

abbrev pub invariant-loop-place : goal.invariant-loop-place
invariant-loop-place l = Opened (λ (e : Link). compact_text (edge_data e)) (take l.place l.edges) l.fn.text.items l.text.items
