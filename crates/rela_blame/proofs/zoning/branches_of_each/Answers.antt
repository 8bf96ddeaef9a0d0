use Rattle.std.proofs.Common.{◌≡◌, All, length, subst, sym}
use Rattle.std.proofs.lemmas.List.Elements.{All-push}
use Rattle.rela_branches.specs.declared.claiming.Branches.{Branches}
use Rattle.rela_blame.proofs.Zoned.{checks_more}
use Rattle.rela_blame.proofs.zoning.branches_of_each.Goals as goal

pub loop-check-preserved : goal.loop-check-preserved
loop-check-preserved c =
    let all = c.loop-check.all.items in
    let branches = c.in_ok-branches_of.field-0 in
    record {
      checks = checks_more all c.push.new.self.items branches c.args.checks.now c.loop-check.check-index c.check-item.result c.loop-check-test.true c.check-item.is
          c.loop-check.invariant.checks c.in_ok-branches_of.ensures.check c.in_ok-push.ensures.items;
      locations = subst (All (λ (b : Branches). b.locations ≡ length c.args.alphabet.now)) (sym c.in_ok-push.ensures.items)
          (All-push (λ (b : Branches). b.locations ≡ length c.args.alphabet.now) all branches c.loop-check.invariant.locations c.in_ok-branches_of.ensures.locations);
    }
