use Rattle.std.proofs.Common.{◌≡◌, ◌<◌, ◌++◌, ◌∷◌, [], false, cond, length, get_or, map, sym, ap, ◌∙◌, subst, append_assoc, arith, refl}
use Rattle.std.specs.List.{All, range_with_len}
use Rattle.std.specs.Option.{option_to_list}
use Rattle.std.proofs.lemmas.List.{get_or-map, get_or_default, length-set, map_push}
use Rattle.std.proofs.lemmas.List.Elements.{All-weaker}
use Rattle.std.proofs.lemmas.List.FromFn.{map-range_with_len_more}
use Rattle.rela_trans.specs.Construction.{leaving, shifted, silent}
use Rattle.rela_trans.specs.Machine.{Machine, IsMachine, IsMove, machine_states}
use Rattle.rela_trans.specs.Stored.{move_of, moves_in}
use Rattle.rela_trans.proofs.InPlace.{at_first, rest_more}
use Rattle.rela_trans.proofs.Shortening.{lead_within}
use Rattle.rela_trans.proofs.transducer.Transducer.move_onto.Goals as goal

pub shifted_leaving-requires : goal.shifted_leaving-requires
shifted_leaving-requires g c k d here =
    let letters = g.L.LabelSet.letters in
    let t = c.args.self in
    let ok : IsMachine t = subst IsMachine c.self.view_is c.self.invariant.1 in
    let all : All (All (λ move. move.to < machine_states t)) t.moves =
    All-weaker (All (IsMove t.letters (machine_states t))) (All (λ move. move.to < machine_states t))
    (λ list is. All-weaker (IsMove t.letters (machine_states t)) (λ move. move.to < machine_states t) (λ move m. m.leads) list is) t.moves ok.moves in
    let lists = c.loop-q.lists.items in
    let below : c.loop-q.q < length lists = omega (arith, c.loop-q.invariant.each, c.loop-q-test.true, c.len-q-end.ensures) in
    let stood : c.replace-list.result ≡ get_or lists c.loop-q.q c.replace-list.result =
    subst (λ v. v ≡ get_or lists c.loop-q.q v) (sym c.replace-list.ensures.value) c.index_mut.ensures.value in
    let lead =
    lead_within letters (machine_states t) c.self.inside.moves.items lists c.loop-q.q c.replace-list.result c.replace-list.result.items below
    stood c.loop-q.invariant.rest (subst (λ (m : Machine). All (All (λ move. move.to < machine_states t)) m.moves) (sym c.self.view_is) all) refl k d here in
    omega (arith, lead, c.requires)

pub loop-q-preserved : goal.loop-q-preserved
loop-q-preserved g c =
    let move = move_of g.L.LabelSet.letters in
    let moves = moves_in g.L.LabelSet.letters in
    let first = c.self.inside.moves.items in
    let finals = c.self.inside.finals.items in
    let q = c.loop-q.q in
    let start : Machine = record { letters = 0; start = 0; finals = finals; moves = moves first } in
    let f = leaving start c.args.by c.args.exit in
    let so_far = map f (range_with_len 0 q) in
    let list = c.replace-list.result in
    let lists = c.loop-q.lists.items in
    let below : q < length lists = omega (arith, c.loop-q.invariant.each, c.loop-q-test.true, c.len-q-end.ensures) in
    let stood : list ≡ get_or lists q list = subst (λ v. v ≡ get_or lists q v) (sym c.replace-list.ensures.value) c.index_mut.ensures.value in
    let there = at_first first lists q list below c.loop-q.invariant.rest in
    let own : map move list.items ≡ get_or (moves first) q [] =
    sym (get_or-map (λ v. map move v.items) first q list [] there.0 ∙ ap (λ v. map move v.items) (there.1 ∙ sym stood)) in
    let flag = c.index.ensures ∙ get_or_default finals q c.index.result.now false (omega (arith, c.loop-q-test.true, c.len-q-end.ensures)) in
    let added : map move c.in_ok-shifted_leaving.field-0.items ≡ f q =
    c.in_ok-shifted_leaving.ensures ∙ ap (λ l. map (shifted c.args.by) l ++ cond c.index.result.now (map silent (option_to_list c.args.exit)) []) own
    ∙ ap (λ b. map (shifted c.args.by) (get_or (moves first) q []) ++ cond b (map silent (option_to_list c.args.exit)) []) flag in
    record {
      done =
          ap moves c.in_ok-push.ensures.items ∙ map_push (λ v. map move v.items) c.loop-q.moves.items _
          ∙ ap (λ l. l ++ map move c.in_ok-shifted_leaving.field-0.items ∷ []) c.loop-q.invariant.done
          ∙ ap (λ m. (moves c.args.moves.now.items ++ so_far) ++ m ∷ []) added
          ∙ append_assoc (moves c.args.moves.now.items) so_far (f q ∷ [])
          ∙ ap (λ l. moves c.args.moves.now.items ++ l) (sym (map-range_with_len_more f 0 q q (omega arith)));
      rest = rest_more first c.loop-q.lists.items q c.replace-list.new.dest c.loop-q.invariant.rest;
      each = length-set c.loop-q.lists.items q c.replace-list.new.dest ∙ c.loop-q.invariant.each;
    }
