use Rattle.std.proofs.Common.{◌≡◌, true, false}
use Rattle.rela_graph.proofs.Outlines.{places_differ, one_more_place}
use Rattle.rela_graph.proofs.outline.same_places.Goals as goal

pub returns-then-symbol_at : goal.returns-then-symbol_at
returns-then-symbol_at c = (
  λ t. let no : false ≡ true = t in cc,
  λ same. absurd
      (places_differ c.args.level c.args.other_level c.args.nodes.now c.args.others.now c.loop-n.n _ c.symbol_at.result c.symbol_at-in-loop-n.result
      c.loop-n-test.true c.if-nodes-others.false c.symbol_at.ensures c.symbol_at-in-loop-n.ensures c.if-symbol_at.true same),
)

pub loop-n-preserved : goal.loop-n-preserved
loop-n-preserved c =
    one_more_place c.args.level c.args.other_level c.args.nodes.now c.args.others.now c.loop-n.n _ c.symbol_at.result c.symbol_at-in-loop-n.result
    c.loop-n-test.true c.if-nodes-others.false c.symbol_at.ensures c.symbol_at-in-loop-n.ensures c.loop-n.invariant c.if-symbol_at.false
