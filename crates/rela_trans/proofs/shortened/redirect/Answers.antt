use Rattle.std.proofs.Common.{◌<◌, length, get_or, ap, subst, arith, refl}
use Rattle.rela_trans.specs.Detours.{redirected}
use Rattle.rela_trans.specs.Stored.{move_of}
use Rattle.rela_trans.proofs.InPlace.{at_first, each_more, rest_more}
use Rattle.rela_trans.proofs.shortened.redirect.Goals as goal

pub bounds-ends-edge : goal.bounds-ends-edge
bounds-ends-edge g c =
    let i = c.loop-edge.edge-index in
    let edge = c.edge-item.result in
    let there = at_first c.args.moves.now c.loop-edge.moves i edge (omega (arith, c.loop-edge.auto.moves)) c.loop-edge.invariant.rest in
    subst (λ e. e.to < length c.args.ends.now) there.1 (c.requires i edge there.0)

pub offset_bounds-ends-edge : goal.offset_bounds-ends-edge
offset_bounds-ends-edge g c =
    let i = c.loop-edge.edge-index in
    let edge = c.edge-item.result in
    let there = at_first c.args.moves.now c.loop-edge.moves i edge (omega (arith, c.loop-edge.auto.moves)) c.loop-edge.invariant.rest in
    let within = subst (λ e. e.to < length c.args.ends.now) there.1 (c.requires i edge there.0) in
    omega arith

pub loop-edge-preserved : goal.loop-edge-preserved
loop-edge-preserved g c =
    let moves = c.loop-edge.moves in
    let i = c.loop-edge.edge-index in
    let edge = get_or moves i c.edge-item.result in
    record {
      done =
          each_more (move_of g.L.LabelSet.letters) (redirected c.args.ends.now) c.args.moves.now moves i edge (record edge { to = get_or c.args.ends.now edge.to 0 })
          (omega (arith, c.loop-edge.auto.moves)) (ap (get_or moves i) c.edge-item.is) c.loop-edge.invariant.done c.loop-edge.invariant.rest refl;
      rest = rest_more c.args.moves.now moves i (record edge { to = get_or c.args.ends.now edge.to 0 }) c.loop-edge.invariant.rest;
    }
