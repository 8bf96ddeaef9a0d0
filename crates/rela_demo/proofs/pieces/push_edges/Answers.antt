use Rattle.std.proofs.Common.{take}
use Rattle.std.proofs.lemmas.List.{take_all}
use Rattle.serde_json.specs.Written.{compact_text}
use Rattle.rela_graph.specs.declared.node.Link.{Link}
use Rattle.rela_demo.specs.Text.{edge_data}
use Rattle.rela_demo.proofs.Arrays.{closed, opened_more, opened_none}
use Rattle.rela_demo.proofs.pieces.push_edges.Goals as goal

pub loop-place-init : goal.loop-place-init
loop-place-init c = opened_none (λ (e : Link). compact_text (edge_data e)) c.args.edges.now c.args.text.now.items c.push.new.self.items c.in_ok-push.ensures.items

pub loop-place-preserved : goal.loop-place-preserved
loop-place-preserved c = opened_more (λ (e : Link). compact_text (edge_data e)) c.args.edges.now c.loop-place.place _ c.args.text.now.items c.loop-place.text.items c.push_comma.new.text.items c.push_edge.new.text.items c.loop-place-test.true c.loop-place.invariant c.in_ok-push_comma.ensures c.in_ok-push_edge.ensures

pub returns : goal.returns
returns c = closed edge_data c.args.edges.now (take c.loop-place.place c.args.edges.now) c.args.text.now.items c.loop-place.text.items c.push-2.new.self.items (take_all c.loop-place.place c.args.edges.now c.loop-place-test.false) c.loop-place.invariant c.in_ok-push-2.ensures.items
