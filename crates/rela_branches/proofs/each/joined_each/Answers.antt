use Rattle.std.proofs.Common.{◌≡◌, ◌<◌, ℕ, List, refl, sym, subst, ◌∙◌}
use Rattle.rela_branches.specs.Places.{AreJoined}
use Rattle.rela_branches.proofs.Eaches.{all_more, at, item, longer, two_done}
use Rattle.rela_branches.proofs.Members.{row_below}
use Rattle.rela_branches.proofs.each.joined_each.Goals as goal

pub joined-requires-clause-first : goal.joined-requires-clause-first
joined-requires-clause-first c =
    row_below c.args.first.now c.args.bound c.args.bound c.loop-at.at c.index-first-at.result c.as_slice.result.now c.requires.first c.loop-at-test.true
    c.index-first-at.is c.as_slice.ensures refl

pub joined-requires-clause-second : goal.joined-requires-clause-second
joined-requires-clause-second c =
    row_below c.args.second.now c.args.bound c.args.bound c.loop-at.at c.index-second-at.result c.as_slice-in-loop-at.result.now c.requires.second
    (subst (λ (n : ℕ). c.loop-at.at < n) (sym c.requires.length) c.loop-at-test.true) c.index-second-at.is c.as_slice-in-loop-at.ensures refl

pub loop-at-preserved : goal.loop-at-preserved
loop-at-preserved c =
    let first = c.args.first.now in
    let second = c.args.second.now in
    let k = c.loop-at.at in
    let made = c.in_ok-joined.field-0 in
    let is = c.in_ok-push.ensures.items in
    let one : c.as_slice.result.now ≡ at first k = c.as_slice.ensures ∙ item first k c.index-first-at.result c.loop-at-test.true c.index-first-at.is in
    let other : c.as_slice-in-loop-at.result.now ≡ at second k = c.as_slice-in-loop-at.ensures
    ∙ item second k c.index-second-at.result (subst (λ (n : ℕ). c.loop-at.at < n) (sym c.requires.length) c.loop-at-test.true) c.index-second-at.is in record {
      long = longer c.loop-at.all.items c.push.new.self.items k made is c.loop-at.invariant.long;
      each = all_more (λ i to. AreJoined c.args.bound (at first i) (at second i) to) c.loop-at.all.items c.push.new.self.items k made is c.loop-at.invariant.long
          (subst (λ (xs : List ℕ). AreJoined c.args.bound xs (at second k) made) one
          (subst (λ (ys : List ℕ). AreJoined c.args.bound c.as_slice.result.now ys made) other c.in_ok-joined.ensures)) c.loop-at.invariant.each;
    }

pub returns : goal.returns
returns c =
    two_done (AreJoined c.args.bound) c.args.first.now c.args.second.now c.loop-at.all.items c.loop-at.at c.loop-at.invariant.long c.loop-at.auto.at-end c.loop-at-test.false
    c.loop-at.invariant.each
