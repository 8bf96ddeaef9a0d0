use Rattle.std.proofs.Common.{map, sym, ap, ◌∙◌}
use Rattle.std.proofs.lemmas.List.{take_all}
use Rattle.rela_nfa.specs.Directing.{extended}
use Rattle.rela_nfa.specs.Stored.{move_of as edge_of}
use Rattle.rela_trans.specs.Composition.{second_alone}
use Rattle.rela_trans.specs.ImageMoves.{alone_labels, written_labels}
use Rattle.rela_trans.specs.Stored.{move_of}
use Rattle.rela_trans.proofs.Directed.{labels_more}
use Rattle.rela_trans.proofs.image_edges.add_alone.Goals as goal

pub loop-second-preserved : goal.loop-second-preserved
loop-second-preserved g c =
    let edge = edge_of g.L.LabelSet.letters in
    labels_more (move_of g.L.LabelSet.letters) c.args.moves.now c.loop-second.second-index c.second-item.result c.loop-second-test.true (sym c.second-item.is) (λ n. written_labels (second_alone n.kind))
    (map edge c.args.edges.now.items) (map edge c.loop-second.edges.items) _ c.args.targets.now c.loop-second.invariant
    (c.in_ok-add_written.ensures ∙ ap (λ k. extended (map edge c.loop-second.edges.items) (written_labels k) c.args.targets.now) c.in_ok-alone.ensures)

pub returns : goal.returns
returns g c =
    let edge = edge_of g.L.LabelSet.letters in
    c.loop-second.invariant
    ∙ ap (λ l. extended (map edge c.args.edges.now.items) (alone_labels (map (move_of g.L.LabelSet.letters) l)) c.args.targets.now)
    (take_all c.loop-second.second-index c.args.moves.now c.loop-second-test.false)
