use Rattle.std.proofs.Common.{get_or, map, ap, arith}
use Rattle.rela_trans.specs.Coaccessible.{kept_by}
use Rattle.rela_trans.specs.Stored.{move_of}
use Rattle.rela_trans.proofs.InPlace.{each_more, rest_more}
use Rattle.rela_trans.proofs.pruned.keep_each.Goals as goal

pub loop-moves-preserved : goal.loop-moves-preserved
loop-moves-preserved g c =
    let lists = c.loop-moves.lists in
    let i = c.loop-moves.moves-index in
    record {
      done =
          each_more (λ list. map (move_of g.L.LabelSet.letters) list.items) (kept_by c.args.flags.now) c.args.lists.now lists i (get_or lists i c.moves-item.result) c.keep.new.moves
          (omega (arith, c.loop-moves.auto.lists)) (ap (get_or lists i) c.moves-item.is) c.loop-moves.invariant.done c.loop-moves.invariant.rest c.keep.ensures;
      rest = rest_more c.args.lists.now lists i c.keep.new.moves c.loop-moves.invariant.rest;
    }
