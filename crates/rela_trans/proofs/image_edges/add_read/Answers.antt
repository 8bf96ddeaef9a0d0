use Rattle.std.proofs.Common.{map, sym, ap, ◌∙◌}
use Rattle.std.specs.Option.{option_map}
use Rattle.std.proofs.lemmas.List.{take_all}
use Rattle.rela_nfa.specs.Directing.{extended}
use Rattle.rela_nfa.specs.Stored.{move_of as edge_of}
use Rattle.rela_trans.specs.ImageMoves.{read_by, read_labels, written_labels}
use Rattle.rela_trans.specs.Stored.{move_of}
use Rattle.rela_trans.proofs.Directed.{labels_more}
use Rattle.rela_trans.proofs.image_edges.add_read.Goals as goal

pub loop-second-preserved : goal.loop-second-preserved
loop-second-preserved g c =
    let letters = g.L.LabelSet.letters in
    let edge = edge_of letters in
    labels_more (move_of letters) c.args.moves.now c.loop-second.second-index c.second-item.result c.loop-second-test.true (sym c.second-item.is)
    (λ n. written_labels (read_by (option_map letters c.args.source.now.label) n.kind)) (map edge c.args.edges.now.items) (map edge c.loop-second.edges.items) _ c.args.targets.now
    c.loop-second.invariant c.in_ok-add_if_read.ensures

pub returns : goal.returns
returns g c =
    let letters = g.L.LabelSet.letters in
    let edge = edge_of letters in
    c.loop-second.invariant
    ∙ ap (λ l. extended (map edge c.args.edges.now.items) (read_labels (option_map letters c.args.source.now.label) (map (move_of letters) l)) c.args.targets.now)
    (take_all c.loop-second.second-index c.args.moves.now c.loop-second-test.false)
