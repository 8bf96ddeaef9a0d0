use Rattle.std.proofs.Common.{Bool, List, ◌++◌, map, ◌∙◌, sym, ap, subst}
use Rattle.std.specs.List.{All, flat_map}
use Rattle.std.proofs.lemmas.List.{take_all}
use Rattle.rela_nfa.specs.Automaton.{Move as Edge, moves_of as edges_of}
use Rattle.rela_nfa.specs.Stored.{move_of as edge_of}
use Rattle.rela_trans.specs.Composition.{second_moves}
use Rattle.rela_trans.specs.ImageMoves.{source_moves, read_moves}
use Rattle.rela_trans.specs.Machine.{IsSized, moves_of}
use Rattle.rela_trans.specs.Stored.{kind_of}
use Rattle.rela_trans.specs.declared.joint.JointMove.{JointMove}
use Rattle.rela_trans.proofs.ImageMade.{image_lead}
use Rattle.rela_trans.proofs.OneMore.{mapped_more}
use Rattle.rela_trans.proofs.WrittenEdges.{next_made}
use Rattle.rela_trans.proofs.image_pairs.add_followers.Goals as goal

pub add_read-requires : goal.add_read-requires
add_read-requires g c =
    let letters = g.L.LabelSet.letters in
    λ read is.
    subst (λ n. All (λ second. IsSized n (kind_of letters second.kind)) c.moves-moves.result.now)
    (sym (c.edges-edges.ensures.sized c.loop-edge.edge-index c.edge-item.result c.loop-edge-test.true read (sym (ap (λ e. e.label) c.edge-item.is) ∙ is) ∙ c.requires.letters))
    c.moves-moves.ensures.sized

pub loop-edge-preserved : goal.loop-edge-preserved
loop-edge-preserved g c =
    let edge = edge_of g.L.LabelSet.letters in
    let to = λ (j : JointMove (List Bool)). j.to in
    let edges = edges_of c.args.source.now c.args.pair.left in
    let moves = moves_of c.args.transducer.now c.args.pair.right in
    mapped_more edge c.edges-edges.result.now c.loop-edge.edge-index c.edge-item.result c.loop-edge-test.true (sym c.edge-item.is) (λ m. read_moves m moves) to
    ((c.args.followers.now.items ++ map to (source_moves c.args.pair.right edges)) ++ map to (second_moves c.args.pair.left moves)) c.loop-edge.followers.items _ c.loop-edge.invariant
    (c.in_ok-add_read.ensures ∙ ap (λ l. c.loop-edge.followers.items ++ map to (read_moves (edge c.edge-item.result) l)) c.moves-moves.ensures.moves)

pub returns-clause-next : goal.returns-clause-next
returns-clause-next g c =
    let a = c.args.source.now in
    let t = c.args.transducer.now in
    let x = c.args.pair in
    let to = λ (j : JointMove (List Bool)). j.to in
    c.loop-edge.invariant
    ∙ ap (λ (l : List Edge). ((c.args.followers.now.items ++ map to (source_moves x.right (edges_of a x.left))) ++ map to (second_moves x.left (moves_of t x.right)))
    ++ map to (flat_map (λ m. read_moves m (moves_of t x.right)) l))
    (ap (λ l. map (edge_of g.L.LabelSet.letters) l) (take_all c.loop-edge.edge-index c.edges-edges.result.now c.loop-edge-test.false) ∙ c.edges-edges.ensures.moves)
    ∙ next_made a t c.edges-edges.ensures.automaton x c.args.followers.now.items

pub returns-clause-lead : goal.returns-clause-lead
returns-clause-lead g c =
    image_lead c.args.source.now c.args.transducer.now c.edges-edges.ensures.automaton c.moves-moves.ensures.machine c.args.pair c.requires.left c.requires.right
