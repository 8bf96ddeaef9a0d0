use Rattle.std.proofs.Common.{List, [], map, ◌∙◌, sym, ap, subst}
use Rattle.std.specs.List.{All, flat_map}
use Rattle.std.proofs.lemmas.List.{take_all}
use Rattle.rela_nfa.specs.Automaton.{Move as Edge, moves_of as edges_of}
use Rattle.rela_nfa.specs.Directing.{extended, silent_labels}
use Rattle.rela_nfa.specs.Stored.{move_of as edge_of}
use Rattle.rela_trans.specs.ImageMoves.{alone_labels, read_labels}
use Rattle.rela_trans.specs.Machine.{IsSized, moves_of}
use Rattle.rela_trans.specs.Stored.{kind_of}
use Rattle.rela_trans.proofs.Directed.{labels_more}
use Rattle.rela_trans.proofs.WrittenEdges.{edges_made}
use Rattle.rela_trans.proofs.image_edges.add_edges_from.Goals as goal

pub add_read-requires : goal.add_read-requires
add_read-requires g c =
    let letters = g.L.LabelSet.letters in
    λ read is.
    subst (λ n. All (λ second. IsSized n (kind_of letters second.kind)) c.moves-moves.result.now)
    (sym (c.edges-sources.ensures.sized c.loop-edge.edge-index c.edge-item.result c.loop-edge-test.true read (sym (ap (λ e. e.label) c.edge-item.is) ∙ is) ∙ c.requires.letters))
    c.moves-moves.ensures.sized

pub loop-edge-preserved : goal.loop-edge-preserved
loop-edge-preserved g c =
    let edge = edge_of g.L.LabelSet.letters in
    let moves = moves_of c.args.transducer.now c.args.pair.right in
    let targets = c.args.targets.now in
    labels_more edge c.edges-sources.result.now c.loop-edge.edge-index c.edge-item.result c.loop-edge-test.true (sym c.edge-item.is) (λ m. read_labels m.label moves)
    (extended (extended [] (silent_labels (edges_of c.args.source.now c.args.pair.left)) targets) (alone_labels moves) targets) (map edge c.loop-edge.edges.items) _ targets c.loop-edge.invariant
    (c.in_ok-add_read.ensures ∙ ap (λ l. extended (map edge c.loop-edge.edges.items) (read_labels (edge c.edge-item.result).label l) targets) c.moves-moves.ensures.moves)

pub returns : goal.returns
returns g c =
    let a = c.args.source.now in
    let t = c.args.transducer.now in
    let x = c.args.pair in
    let targets = c.args.targets.now in
    c.loop-edge.invariant
    ∙ ap (λ (l : List Edge). extended (extended (extended [] (silent_labels (edges_of a x.left)) targets) (alone_labels (moves_of t x.right)) targets)
    (flat_map (λ m. read_labels m.label (moves_of t x.right)) l) targets)
    (ap (λ l. map (edge_of g.L.LabelSet.letters) l) (take_all c.loop-edge.edge-index c.edges-sources.result.now c.loop-edge-test.false) ∙ c.edges-sources.ensures.moves)
    ∙ edges_made a t c.edges-sources.ensures.automaton x targets
