use Rattle.std.proofs.Common.{◌+◌, ◌<◌, ◌^◌, get_or, ap, subst, arith, refl}
use Rattle.rela_trans.specs.Construction.{shifted}
use Rattle.rela_trans.specs.Stored.{move_of}
use Rattle.rela_trans.proofs.InPlace.{at_first, each_more, rest_more}
use Rattle.rela_trans.proofs.moving.shift.Goals as goal

pub overflow_add-edge : goal.overflow_add-edge
overflow_add-edge g c =
    let edge = c.edge-item.result in
    let there = at_first c.args.moves.now c.loop-edge.moves c.loop-edge.edge-index edge (omega (arith, c.loop-edge.auto.moves)) c.loop-edge.invariant.rest in
    let within = subst (λ e. c.args.by + e.to < 2 ^ 64) there.1 (c.requires c.loop-edge.edge-index edge there.0) in
    omega (arith, within)

pub loop-edge-preserved : goal.loop-edge-preserved
loop-edge-preserved g c =
    let moves = c.loop-edge.moves in
    let i = c.loop-edge.edge-index in
    let edge = get_or moves i c.edge-item.result in
    record {
      done =
          each_more (move_of g.L.LabelSet.letters) (shifted c.args.by) c.args.moves.now moves i edge (record edge { to = c.args.by + edge.to })
          (omega (arith, c.loop-edge.auto.moves)) (ap (get_or moves i) c.edge-item.is) c.loop-edge.invariant.done c.loop-edge.invariant.rest refl;
      rest = rest_more c.args.moves.now moves i (record edge { to = c.args.by + edge.to }) c.loop-edge.invariant.rest;
    }
