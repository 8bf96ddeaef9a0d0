use Rattle.std.proofs.Common.{◌≡◌, ◌∙◌}
use Rattle.rela_branches.proofs.Eaches.{all_more, at, each_done, item, longer}
use Rattle.rela_branches.proofs.each.copied_each.Goals as goal

pub loop-set-preserved : goal.loop-set-preserved
loop-set-preserved c =
    let sets = c.args.sets.now in
    let k = c.loop-set.set-index in
    let made = c.from_vec.result in
    let is = c.in_ok-push.ensures.items in
    let same : made ≡ at sets k =
    c.from_vec.ensures ∙ c.in_ok-from_slice.ensures.items ∙ c.as_slice.ensures ∙ item sets k c.set-item.result c.loop-set-test.true c.set-item.is in record {
      long = longer c.loop-set.copies.items c.push.new.self.items k made is c.loop-set.invariant.long;
      each = all_more (λ i copy. copy ≡ at sets i) c.loop-set.copies.items c.push.new.self.items k made is c.loop-set.invariant.long same c.loop-set.invariant.each;
    }

pub returns : goal.returns
returns c =
    each_done (λ set copy. copy ≡ set) c.args.sets.now c.loop-set.copies.items c.loop-set.set-index c.loop-set.invariant.long c.loop-set.auto.set-index-end c.loop-set-test.false
    c.loop-set.invariant.each
