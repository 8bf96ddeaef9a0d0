use Rattle.std.proofs.Common.{◌++◌, ◌∷◌, [], get_or, take, map, ap, sym, ◌∙◌}
use Rattle.std.proofs.lemmas.List.{append_assoc, map_more, take_all}
use Rattle.rela_graph.specs.declared.node.Link.{Link}
use Rattle.rela_graph.specs.declared.leaving.Visit.{Visit}
use Rattle.rela_graph.specs.declared.leaving.Visit.TheVariants.{Enter}
use Rattle.rela_graph.proofs.leaving.enter_all.Goals as goal

pub loop-edge-preserved : goal.loop-edge-preserved
loop-edge-preserved c =
    let before = c.args.visits.now.items in
    let enter : Link → Visit = λ link. Enter link.b in
    let last : Visit = enter (get_or c.args.edges.now c.loop-edge.edge-index (record { a = 0; b = 0 })) in
    let more = map_more enter c.args.edges.now c.loop-edge.edge-index (record { a = 0; b = 0 }) c.loop-edge-test.true in
    c.in_ok-push.ensures.items ∙ ap (λ l. l ++ last ∷ []) c.loop-edge.invariant ∙ append_assoc before (map enter (take c.loop-edge.edge-index c.args.edges.now)) (last ∷ []) ∙ ap (λ l. before ++ l) (sym more)

pub returns : goal.returns
returns c = c.loop-edge.invariant ∙ ap (λ l. c.args.visits.now.items ++ map (λ link. Enter link.b) l) (take_all c.loop-edge.edge-index c.args.edges.now c.loop-edge-test.false)
