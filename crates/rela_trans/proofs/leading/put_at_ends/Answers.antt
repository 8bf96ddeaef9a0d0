use Rattle.std.proofs.Common.{◌+◌, ◌<◌, length, map, take, sym, ◌∙◌, subst}
use Rattle.std.proofs.lemmas.List.{length-set, take_all}
use Rattle.rela_trans.specs.Coaccessible.{ends_of}
use Rattle.rela_trans.specs.Stored.{lists_of, move_of}
use Rattle.rela_trans.proofs.Coaccessible.{IsPutAt, put_pushed, ends_more}
use Rattle.rela_trans.proofs.leading.put_at_ends.Goals as goal

pub loop-edge-preserved : goal.loop-edge-preserved
loop-edge-preserved g c =
    let letters = g.L.LabelSet.letters in
    let moves = c.args.moves.now in
    let i = c.loop-edge.edge-index in
    let edge = c.edge-item.result in
    let lists = c.loop-edge.lists.items in
    let within : edge.to < length lists =
    subst (λ n. edge.to < n) (sym c.loop-edge.invariant.each)
    (subst (λ e. e.to < length c.args.lists.now.items) (sym c.edge-item.is) (c.requires i edge c.loop-edge-test.true)) in
    record {
      each = length-set lists edge.to c.push.new.self ∙ c.loop-edge.invariant.each;
      put =
          put_pushed (lists_of c.args.lists.now.items) lists c.args.p (ends_of (map (move_of letters) (take i moves))) edge.to c.index_mut.result.now c.push.new.self within
          c.index_mut.ensures.value c.in_ok-push.ensures.items (ends_of (map (move_of letters) (take (i + 1) moves))) (ends_more letters moves i edge c.loop-edge-test.true c.edge-item.is)
          c.loop-edge.invariant.put;
    }

pub returns-clause-put : goal.returns-clause-put
returns-clause-put g c =
    subst (λ moves. IsPutAt (lists_of c.args.lists.now.items) (lists_of c.loop-edge.lists.items) c.args.p (ends_of (map (move_of g.L.LabelSet.letters) moves)))
    (take_all c.loop-edge.edge-index c.args.moves.now c.loop-edge-test.false) c.loop-edge.invariant.put
