use Rattle.std.proofs.Common.{◌++◌, List, map, append_assoc, ◌∙◌, sym, ap}
use Rattle.std.specs.List.{flat_map}
use Rattle.std.proofs.lemmas.List.{take_all}
use Rattle.rela_nfa.specs.Automaton.{Move as Edge, moves_of as edges_of}
use Rattle.rela_nfa.specs.Stored.{move_of as edge_of}
use Rattle.rela_trans.specs.Machine.{moves_of}
use Rattle.rela_trans.specs.Reached.{alone_pairs, edge_pairs}
use Rattle.rela_trans.proofs.Following.{follows_lead}
use Rattle.rela_trans.proofs.OneMore.{flat_more}
use Rattle.rela_trans.proofs.reading_finer.add_followers.Goals as goal

pub add_by_edge-requires : goal.add_by_edge-requires
add_by_edge-requires g c =
    λ set is.
    c.edges-edges.ensures.sized c.loop-edge.edge-index c.edge-item.result c.loop-edge-test.true set (sym (ap (λ e. e.label) c.edge-item.is) ∙ is) ∙ c.requires.letters

pub loop-edge-preserved : goal.loop-edge-preserved
loop-edge-preserved g c =
    let edge = edge_of g.M.LabelSet.letters in
    let x = c.args.pair in
    let moves = moves_of c.args.transducer.now x.right in
    flat_more edge (edge_pairs c.args.parents.now x.right moves) c.edges-edges.result.now c.loop-edge.edge-index c.edge-item.result
    (c.args.followers.now.items ++ alone_pairs x.left moves) c.loop-edge.followers.items _ c.loop-edge-test.true (sym c.edge-item.is) c.loop-edge.invariant
    (c.in_ok-add_by_edge.ensures ∙ ap (λ l. c.loop-edge.followers.items ++ edge_pairs c.args.parents.now x.right l (edge c.edge-item.result)) c.moves-moves.ensures.moves)

pub returns-clause-next : goal.returns-clause-next
returns-clause-next g c =
    let x = c.args.pair in
    let moves = moves_of c.args.transducer.now x.right in
    let pairs = λ (l : List Edge). flat_map (edge_pairs c.args.parents.now x.right moves) l in
    c.loop-edge.invariant
    ∙ ap (λ (l : List Edge). (c.args.followers.now.items ++ alone_pairs x.left moves) ++ pairs l)
    (ap (map (edge_of g.M.LabelSet.letters)) (take_all c.loop-edge.edge-index c.edges-edges.result.now c.loop-edge-test.false) ∙ c.edges-edges.ensures.moves)
    ∙ append_assoc c.args.followers.now.items (alone_pairs x.left moves) (pairs (edges_of c.args.sources.now x.left))

pub returns-clause-lead : goal.returns-clause-lead
returns-clause-lead g c =
    follows_lead c.args.parents.now c.args.sources.now c.args.transducer.now c.edges-edges.ensures.automaton c.moves-moves.ensures.machine c.args.pair c.requires.left c.requires.right
