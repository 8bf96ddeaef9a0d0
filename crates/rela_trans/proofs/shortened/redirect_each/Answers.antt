use Rattle.std.proofs.Common.{length, get_or, map, drop, ap, ◌∙◌, arith}
use Rattle.std.specs.Vec.{with_items}
use Rattle.rela_trans.specs.Detours.{redirected}
use Rattle.rela_trans.specs.Stored.{move_of}
use Rattle.rela_trans.proofs.Coaccessible.{whole_taken}
use Rattle.rela_trans.proofs.InPlace.{each_more, rest_more}
use Rattle.rela_trans.proofs.Shortening.{lead_within}
use Rattle.rela_trans.proofs.shortened.redirect_each.Goals as goal

pub redirect-requires : goal.redirect-requires
redirect-requires g c =
    let lists = c.loop-moves.lists in
    let i = c.loop-moves.moves-index in
    lead_within g.L.LabelSet.letters (length c.args.ends.now) c.args.lists.now lists i (get_or lists i c.moves-item.result) c.deref_mut.result.now (omega (arith, c.loop-moves.auto.lists))
    (ap (get_or lists i) c.moves-item.is) c.loop-moves.invariant.rest c.requires c.deref_mut.ensures.value

pub loop-moves-preserved : goal.loop-moves-preserved
loop-moves-preserved g c =
    let letters = g.L.LabelSet.letters in
    let ends = c.args.ends.now in
    let lists = c.loop-moves.lists in
    let i = c.loop-moves.moves-index in
    let v = get_or lists i c.moves-item.result in
    let new = c.redirect.new.moves in
    record {
      done =
          each_more (λ list. map (move_of letters) list.items) (map (redirected ends)) c.args.lists.now lists i v (with_items v new) (omega (arith, c.loop-moves.auto.lists))
          (ap (get_or lists i) c.moves-item.is) c.loop-moves.invariant.done c.loop-moves.invariant.rest
          (ap (map (move_of letters)) (whole_taken v.len new (drop (length new) v.items) (c.redirect.auto.moves ∙ c.deref_mut.ensures.len))
          ∙ c.redirect.ensures ∙ ap (λ l. map (redirected ends) (map (move_of letters) l)) c.deref_mut.ensures.value);
      rest = rest_more c.args.lists.now lists i (with_items v new) c.loop-moves.invariant.rest;
    }
