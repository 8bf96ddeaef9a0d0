use Rattle.std.proofs.Common.{arith}
use Rattle.rela_branches.specs.Alternatives.{alternatives_of}
use Rattle.rela_branches.proofs.Blames.{claims_not, item_at, items_long, none_claims, one_more}
use Rattle.rela_branches.proofs.Members.{not_both}
use Rattle.rela_branches.proofs.claiming.Branches.claiming.Goals as goal

pub loop-before-preserved : goal.loop-before-preserved
loop-before-preserved c =
    let check = c.args.self.now.check.now in
    let n = c.args.self.now.locations in
    let word = c.args.word.now in
    let shown = c.deref-alternative-items.result.now in
    let at = item_at c.args.self.now.alternatives.items shown (alternatives_of check.body) c.loop-before.before c.alternative-item.result c.deref-alternative-items.ensures.value
    c.args.self.now.whole c.loop-before-test.true c.alternative-item.is in
    one_more check.classes n check.body word c.loop-before.before c.loop-before.invariant
    (claims_not check.classes n check.body word c.loop-before.before c.alternative-item.result.now at
    (λ z. not_both c.in_ok-claims.field-0 (c.in_ok-claims.ensures.1 z) c.if-branch.false))

pub returns-clause-blame : goal.returns-clause-blame
returns-clause-blame c =
    let check = c.args.self.now.check.now in
    let long = items_long c.args.self.now.alternatives.items c.deref-alternative-items.result.now (alternatives_of check.body) c.deref-alternative-items.ensures.value c.args.self.now.whole in
    let past = c.loop-before-test.false in none_claims check.classes c.args.self.now.locations check.body c.args.word.now c.loop-before.before (omega arith) c.loop-before.invariant
