use Rattle.std.proofs.Common.{◌≡◌, ◌∙◌, ◌-◌, ◌++◌, ap, arith, ℕ}
use Rattle.rela_demo.specs.Names.{both, labels_from}
use Rattle.rela_demo.proofs.Ranges.{append_two, behind_more, behind_none}
use Rattle.rela_demo.proofs.labels.push_labels.Goals as goal

pub loop-number-init : goal.loop-number-init
loop-number-init c = behind_none both c.args.first c.args.labels.now.items

pub loop-number-preserved : goal.loop-number-preserved
loop-number-preserved c =
    behind_more both c.args.first c.loop-number.number c.args.labels.now.items c.loop-number.labels.items c.push-in-loop-number.new.self.items c.loop-number.auto.number c.loop-number.invariant
    (append_two c.loop-number.labels.items c.push.new.self.items c.push-in-loop-number.new.self.items _ _ c.in_ok-push.ensures.items c.in_ok-push-2.ensures.items)

pub returns : goal.returns
returns c =
    let last : c.loop-number.number ≡ c.args.end = omega (arith, c.loop-number-test.false, c.loop-number.auto.number-end c.requires) in
    c.loop-number.invariant ∙ ap (λ (k : ℕ). c.args.labels.now.items ++ labels_from c.args.first (k - c.args.first)) last
