use Rattle.std.proofs.Common.{◌≡◌, ◌++◌, [], ◌∷◌, ap, arith, map, sym, subst, ◌∙◌}
use Rattle.std.specs.List.{All, flat_map}
use Rattle.rela_trans.specs.Machine.{IsSized, machine_states}
use Rattle.rela_trans.specs.Stored.{kind_of, move_of}
use Rattle.rela_letter_image.specs.Branches.{ends_of, passed_on, passing}
use Rattle.rela_letter_image.proofs.Laying.{laid_from_none, states_all, states_more, states_none}
use Rattle.rela_letter_image.proofs.Passing.{passing_moves}
use Rattle.rela_letter_image.proofs.laying_out.states_of.Goals as goal

pub loop-q-init : goal.loop-q-init
loop-q-init g c = record {
  ended = states_none (passing (ends_of c.args.kept.now) c.args.relation.now) c.in_ok-lists.lists.0 (ap (λ v. v.0) c.in_ok-lists.ensures);
  none = ap (λ v. v.1) c.in_ok-lists.ensures;
}

pub push_all-requires : goal.push_all-requires
push_all-requires g c = subst (λ n. All (λ step. IsSized n (kind_of g.M.LabelSet.letters step.kind)) c.moves.result.now) (sym c.letters-letters.ensures.letters) c.moves.ensures.sized

pub loop-q-preserved : goal.loop-q-preserved
loop-q-preserved g c =
    let ends = ends_of c.args.kept.now in
    let pass = flat_map (passed_on ends) in
    let moves = pass (map (move_of g.M.LabelSet.letters) c.moves.result.now) in
    let old = c.loop-q.lists in
    let mid = c.push_all.new.lists in
    let gains = c.in_ok-push_all.ensures in
    record {
      ended = states_more (passing ends c.args.relation.now) c.loop-q.q c.letters-letters.result old.0 c.in_ok-lists-2.lists.0 mid.1 moves c.loop-q.invariant.ended
          (ap (λ v. v.0) c.in_ok-lists-2.ensures ∙ ap (λ l. l ++ mid.1 ∷ []) gains.ended) c.letters-letters.ensures.letters
          (ap pass c.moves.ensures.moves ∙ sym (passing_moves c.args.relation.now c.moves.ensures.machine ends c.requires c.loop-q.q)) (laid_from_none c.letters-letters.result moves old mid c.loop-q.invariant.none gains);
      none = ap (λ v. v.1) c.in_ok-lists-2.ensures;
    }

pub returns : goal.returns
returns g c =
    let done : c.loop-q.q ≡ machine_states c.args.relation.now = omega (arith, c.loop-q-test.false, c.states-q-end.ensures.states, c.loop-q.auto.q-end) in
    states_all (passing (ends_of c.args.kept.now) c.args.relation.now) c.loop-q.q c.loop-q.lists.0 done c.loop-q.invariant.ended
