use Rattle.std.proofs.Common.{take}
use Rattle.rela_demo.specs.Pieces.{node_text}
use Rattle.rela_demo.proofs.Arrays.{Opened}
use Rattle.rela_demo.proofs.pieces.push_nodes.Given as goal

abbrev pub invariant-loop-place : goal.invariant-loop-place
invariant-loop-place l = Opened node_text (take l.place l.labels) l.fn.text.items l.text.items
