use Rattle.std.proofs.Common.{◌≡◌, ◌<◌, length, get_or, ap, sym, subst, ◌∙◌}
use Rattle.std.specs.List.{All, Contains}
use Rattle.std.proofs.lemmas.List.{take_all}
use Rattle.std.proofs.lemmas.List.Elements.{All-push}
use Rattle.rela_minimise.proofs.Swapping.{only_with, own_with, own_without}
use Rattle.rela_minimise.proofs.largest.own.Goals as goal
use Rattle.rela_minimise.proofs.largest.own.Goals.{then-classes-q+in_ok-push, else-classes-q}

pub loop-q-preserved : goal.loop-q-preserved
loop-q-preserved c = elim c.if-classes-q.branch [
  | then-classes-q+in_ok-push w ↦
      let pushed = ap (λ v. v.items) w.own-is ∙ w.in_ok-push.ensures.items in
      record {
        all = own_with c.args.list.now c.loop-q.q-index c.loop-q.own.items c.if-classes-q.own.items (λ q. get_or c.args.classes.now q 0 ≡ c.args.class) c.loop-q-test.true pushed c.loop-q.invariant.all;
        states = subst (All (λ q. q < length c.args.classes.now)) (sym pushed)
            (All-push (λ q. q < length c.args.classes.now) c.loop-q.own.items (get_or c.args.list.now c.loop-q.q-index 0) c.loop-q.invariant.states (c.requires c.loop-q.q-index 0 c.loop-q-test.true));
        only = only_with c.loop-q.own.items c.if-classes-q.own.items (get_or c.args.list.now c.loop-q.q-index 0) (λ q. get_or c.args.classes.now q 0 ≡ c.args.class) pushed w.if-classes-q.true c.loop-q.invariant.only;
      }
  | else-classes-q w ↦
      let same = ap (λ v. v.items) w.own-is in
      record {
        all = λ q among holds. subst (λ l. Contains l q) (sym same)
            (own_without c.args.list.now c.loop-q.q-index c.loop-q.own.items (λ p. get_or c.args.classes.now p 0 ≡ c.args.class) c.loop-q-test.true w.if-classes-q.false c.loop-q.invariant.all q among holds);
        states = subst (All (λ q. q < length c.args.classes.now)) (sym same) c.loop-q.invariant.states;
        only = λ q among. c.loop-q.invariant.only q (subst (λ l. Contains l q) same among);
      }
]

pub returns-clause-all : goal.returns-clause-all
returns-clause-all c q among holds = c.loop-q.invariant.all q (subst (λ l. Contains l q) (sym (take_all c.loop-q.q-index c.args.list.now c.loop-q-test.false)) among) holds
