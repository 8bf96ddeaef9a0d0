use Rattle.std.proofs.Common.{◌≡◌, true, Err, arith}
use Rattle.rela_inputs.specs.declared.refusal.Input.TheVariants.{Assertions}
use Rattle.rela_assert.proofs.ClaimLaws.{MemoryOrRefused, are_claims, claims_read, no_claims, no_tree_no_claims}
use Rattle.rela_assert.proofs.claiming.read_claims.Goals as goal

pub returns-in_err-file-clause-asserted : goal.returns-in_err-file-clause-asserted
returns-in_err-file-clause-asserted c =
    let fault : c.from_residual.result ≡ Err c.in_err-file.field-0.0 = grind arith in
    rw fault (no_tree_no_claims (c.steps_chain.ensures true true) _ _ c.in_err-file.field-0.0 c.in_err-file.ensures)

pub returns-in-Ok-clause-asserted : goal.returns-in-Ok-clause-asserted
returns-in-Ok-clause-asserted c = claims_read (c.steps_chain.ensures true true) _ c.in_ok-file.file _ c.in-Ok.claims.items c.in_ok-file.ensures c.in-Ok.ensures.claims

pub returns-clause-asserted : goal.returns-clause-asserted
returns-clause-asserted c =
    let error = c.in-Err.error in
    let halts : MemoryOrRefused error c.spec_halt.result = rw c.spec_halt.ensures (c.texts_are_refused.ensures Assertions error) in
    no_claims (c.steps_chain.ensures true true) _ c.in_ok-file.file _ error _ c.in_ok-file.ensures halts c.in-Err.ensures.refused

pub returns-in-Ok-clause-claims : goal.returns-in-Ok-clause-claims
returns-in-Ok-clause-claims c = are_claims c.args.locations.now c.in_ok-file.file.level c.in-Ok.claims.items c.in-Ok.ensures.below c.in-Ok.ensures.plain
