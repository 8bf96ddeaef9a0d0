use Rattle.std.proofs.Common.{◌+◌, ◌*◌, drop, length, ap, ap₂, ◌∙◌, arith}
use Rattle.std.proofs.lemmas.Result.{IfOk-weaker}
use Rattle.rela_names.specs.declared.level.Level.TheVariants.{Device}
use Rattle.rela_shape.proofs.Fed.{graph_kept, wiring_kept, wiring_within}
use Rattle.rela_shape.proofs.wiring.wiring_of.Goals as goal

pub bytes_from-requires : goal.bytes_from-requires
bytes_from-requires c =
    let g = c.args.graph.now in
    let kept = graph_kept g c.nodes-nodes.result.now Device c.at.result c.in_ok-recorder.recorder c.hash.new.state
    c.nodes-nodes.ensures.topology c.nodes-nodes.ensures.nodes c.at.ensures c.in_ok-recorder.ensures c.hash.ensures in
    omega (arith, wiring_within Device g, ap length kept, ap length c.nodes-nodes.ensures.nodes)

pub returns-clause-wiring : goal.returns-clause-wiring
returns-clause-wiring c =
    let g = c.args.graph.now in
    let kept = graph_kept g c.nodes-nodes.result.now Device c.at.result c.in_ok-recorder.recorder c.hash.new.state
    c.nodes-nodes.ensures.topology c.nodes-nodes.ensures.nodes c.at.ensures c.in_ok-recorder.ensures c.hash.ensures in
    IfOk-weaker c.bytes_from.result _ _
    (λ bytes from. from ∙ ap₂ (λ nodes all. drop (8 + 4 * length nodes) all) c.nodes-nodes.ensures.nodes kept ∙ wiring_kept Device g) c.bytes_from.ensures
