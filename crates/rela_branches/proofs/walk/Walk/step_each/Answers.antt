use Rattle.std.proofs.Common.{◌≡◌, ◌+◌, ℕ, List, length, refl, subst, ◌∙◌}
use Rattle.rela_translate.specs.Zones.{path_symbols}
use Rattle.rela_branches.specs.Walks.{IsStep}
use Rattle.rela_branches.proofs.Eaches.{all_more, at, each_done, item, longer}
use Rattle.rela_branches.proofs.Members.{row_below}
use Rattle.rela_branches.proofs.walk.Walk.step_each.Goals as goal

pub step-requires : goal.step-requires
step-requires c =
    row_below c.args.from.now (length c.args.self.now.word.now + 1) (length c.args.self.now.word.now + 1) c.loop-set.set-index c.set-item.result c.as_slice.result.now c.requires
    c.loop-set-test.true c.set-item.is c.as_slice.ensures refl

pub loop-set-preserved : goal.loop-set-preserved
loop-set-preserved c =
    let classes = c.args.self.now.classes.now in
    let symbols = path_symbols c.args.self.now.locations in
    let word = c.args.self.now.word.now in
    let from = c.args.from.now in
    let k = c.loop-set.set-index in
    let made = c.in_ok-step.field-0 in
    let is = c.in_ok-push.ensures.items in
    let set : c.as_slice.result.now ≡ at from k = c.as_slice.ensures ∙ item from k c.set-item.result c.loop-set-test.true c.set-item.is in record {
      long = longer c.loop-set.to.items c.push.new.self.items k made is c.loop-set.invariant.long;
      each = all_more (λ i to. IsStep classes symbols word c.args.letter (at from i) to) c.loop-set.to.items c.push.new.self.items k made is c.loop-set.invariant.long
          (subst (λ (xs : List ℕ). IsStep classes symbols word c.args.letter xs made) set c.in_ok-step.ensures) c.loop-set.invariant.each;
    }

pub returns : goal.returns
returns c =
    each_done (IsStep c.args.self.now.classes.now (path_symbols c.args.self.now.locations) c.args.self.now.word.now c.args.letter) c.args.from.now c.loop-set.to.items c.loop-set.set-index
    c.loop-set.invariant.long c.loop-set.auto.set-index-end c.loop-set-test.false c.loop-set.invariant.each
