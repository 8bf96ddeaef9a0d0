use Rattle.std.proofs.Common.{◌≡◌, ◌∙◌, ◌-◌, [], ap, arith, ℕ}
use Rattle.std.specs.List.{flat_map, range_with_len}
use Rattle.rela_demo.specs.Layers.{edges_into}
use Rattle.rela_demo.proofs.Ranges.{behind_more}
use Rattle.rela_demo.proofs.layers.edges_of.Goals as goal

pub loop-layer-preserved : goal.loop-layer-preserved
loop-layer-preserved c =
    behind_more edges_into 2 c.loop-layer.layer [] c.loop-layer.edges.items c.push_edges_into.new.edges.items c.loop-layer.auto.layer c.loop-layer.invariant c.in_ok-push_edges_into.ensures

pub returns : goal.returns
returns c =
    let last : c.loop-layer.layer - 2 ≡ c.args.n - 1 = omega (arith, c.requires.from_one, c.loop-layer-test.false, c.loop-layer.auto.layer-end (omega (arith, c.requires.from_one))) in
    c.loop-layer.invariant ∙ ap (λ (k : ℕ). flat_map edges_into (range_with_len 2 k)) last
