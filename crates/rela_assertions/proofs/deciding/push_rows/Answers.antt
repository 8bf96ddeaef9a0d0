use Rattle.std.proofs.Common.{subst, arith}
use Rattle.rela_claims.specs.declared.claim.Claim.{Claim}
use Rattle.rela_assertions.specs.Rows.{IsRowOf}
use Rattle.rela_assertions.proofs.Zips.{appended_more}
use Rattle.rela_assertions.proofs.deciding.push_rows.Goals as goal

pub loop-claim-preserved : goal.loop-claim-preserved
loop-claim-preserved c =
    appended_more (IsRowOf c.args.alphabet.now c.args.level c.args.complements.now c.args.pair.now) c.args.claims.now c.args.rows.now.items c.loop-claim.rows.items c.push.new.self.items
    c.loop-claim.claim-index _ c.in_ok-row_of.field-0 (omega arith) c.loop-claim.invariant c.in_ok-push.ensures.items
    (subst (λ (x : Claim). IsRowOf c.args.alphabet.now c.args.level c.args.complements.now c.args.pair.now x c.in_ok-row_of.field-0) c.claim-item.is c.in_ok-row_of.ensures)
