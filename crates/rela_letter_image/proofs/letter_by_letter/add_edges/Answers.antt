use Rattle.std.proofs.Common.{sym}
use Rattle.rela_nfa.specs.Stored.{move_of}
use Rattle.rela_letter_image.proofs.Spelling.{adds_more, adds_none}
use Rattle.rela_letter_image.proofs.letter_by_letter.add_edges.Goals as goal

pub loop-edge-init : goal.loop-edge-init
loop-edge-init g c = adds_none c.args.builder.now.parts

pub loop-edge-preserved : goal.loop-edge-preserved
loop-edge-preserved g c =
    adds_more (move_of g.L.LabelSet.letters) c.args.edges.now c.loop-edge.edge-index c.edge-item.result c.loop-edge-test.true (sym c.edge-item.is) c.args.builder.now.parts c.loop-edge.builder.parts c.add_edge.new.builder.parts
    c.loop-edge.invariant c.in_ok-add_edge.ensures
