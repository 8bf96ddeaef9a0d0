use Rattle.std.proofs.Common.{◌+◌, ◌++◌, [], ◌∷◌, length, map, ap, ◌∙◌, arith}
use Rattle.std.proofs.lemmas.List.{length-map, length_push, map_push}
use Rattle.rela_nfa.specs.Stored.{move_of, moves_in}
use Rattle.rela_minimise.proofs.Joined.{have_more}
use Rattle.rela_minimise.proofs.quotient.edges_of.Goals as goal

pub loop-q-preserved : goal.loop-q-preserved
loop-q-preserved g c =
    let letters = g.L.LabelSet.letters in
    let edges = c.loop-q.edges.items in
    let has = c.loop-q.invariant in
    record {
      each = ap length c.in_ok-push.ensures.items ∙ length_push edges c.in_ok-take_edges.field-0 ∙ ap (λ n. n + 1) has.each;
      none = c.in_ok-take_edges.ensures.none;
      onto = have_more c.args.dfa.now c.args.classes.now c.args.heads.now c.loop-q.q-index (moves_in letters edges) (moves_in letters c.push.new.self.items) c.put_all.new.joined
          (length-map edges (λ v. map (move_of letters) v.items) ∙ has.each)
          (ap (moves_in letters) c.in_ok-push.ensures.items ∙ map_push (λ v. map (move_of letters) v.items) edges c.in_ok-take_edges.field-0
          ∙ ap (λ ms. moves_in letters edges ++ ms ∷ []) c.in_ok-take_edges.ensures.taken)
          c.in_ok-put_all.ensures has.onto;
    }

pub returns : goal.returns
returns g c =
    let letters = g.L.LabelSet.letters in
    let edges = c.loop-q.edges.items in
    let has = c.loop-q.invariant in
    let len = length-map edges (λ v. map (move_of letters) v.items) in
    record {
      each = let same = has.each in let past = c.loop-q-test.false in let end = c.loop-q.auto.q-index-end in omega arith;
      onto = λ k below. has.onto k (let past = c.loop-q-test.false in omega arith);
    }
