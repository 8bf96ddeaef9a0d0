use Rattle.std.proofs.Common.{◌≡◌, ℕ, List, length, refl, subst, ◌∙◌}
use Rattle.rela_branches.specs.Places.{AreNext}
use Rattle.rela_branches.proofs.Eaches.{all_more, at, each_done, item, longer}
use Rattle.rela_branches.proofs.Members.{row_below}
use Rattle.rela_branches.proofs.each.next_each.Goals as goal

pub next-requires-clause-from : goal.next-requires-clause-from
next-requires-clause-from c =
    row_below c.args.from.now (length c.args.rows.now) (length c.args.rows.now) c.loop-set.set-index c.set-item.result c.as_slice.result.now c.requires.from c.loop-set-test.true
    c.set-item.is c.as_slice.ensures refl

pub loop-set-preserved : goal.loop-set-preserved
loop-set-preserved c =
    let rows = c.args.rows.now in
    let from = c.args.from.now in
    let k = c.loop-set.set-index in
    let made = c.in_ok-next.field-0 in
    let is = c.in_ok-push.ensures.items in
    let set : c.as_slice.result.now ≡ at from k = c.as_slice.ensures ∙ item from k c.set-item.result c.loop-set-test.true c.set-item.is in record {
      long = longer c.loop-set.to.items c.push.new.self.items k made is c.loop-set.invariant.long;
      each = all_more (λ i to. AreNext rows (at from i) to) c.loop-set.to.items c.push.new.self.items k made is c.loop-set.invariant.long
          (subst (λ (xs : List ℕ). AreNext rows xs made) set c.in_ok-next.ensures) c.loop-set.invariant.each;
    }

pub returns : goal.returns
returns c =
    each_done (AreNext c.args.rows.now) c.args.from.now c.loop-set.to.items c.loop-set.set-index c.loop-set.invariant.long c.loop-set.auto.set-index-end c.loop-set-test.false
    c.loop-set.invariant.each
