use Rattle.std.proofs.Common.{◌≡◌, ◌∙◌, ◌<◌, ◌≤◌, ℕ, Some, List, false, true, refl, sym, ap, subst, ⊎_elim, arith}
use Rattle.std.proofs.lemmas.Bool.{cases_lt}
use Rattle.rela_certfile.specs.Blocks.{block_at}
use Rattle.rela_certfile.specs.declared.rows.Step.{Step}
use Rattle.rela_cert.proofs.SameBlocks.{blocks_differ, blocks_equal}
use Rattle.rela_cert.proofs.same_blocks.begin_alike.Goals as goal

pub block-requires : goal.block-requires
block-requires c = c.requires.row c.loop-block.block c.loop-block-test.true

pub block-requires-in-loop-block : goal.block-requires-in-loop-block
block-requires-in-loop-block c = c.requires.other c.loop-block.block c.loop-block-test.true

pub returns-then-ne : goal.returns-then-ne
returns-then-ne c = (
  λ t. let no : false ≡ true = t in cc,
  λ each.
      let e : Some c.block.result.now ≡ Some c.block-in-loop-block.result.now =
      sym c.block.ensures ∙ (each c.loop-block.block c.loop-block-test.true ∙ c.block-in-loop-block.ensures) in
      absurd (blocks_differ c.block.result.now c.block-in-loop-block.result.now c.ne.result c.ne.ensures c.if-ne.true (cc)),
)

pub loop-block-preserved : goal.loop-block-preserved
loop-block-preserved c k below =
    let rows = c.args.certificate.now in
    let equal : c.block.result.now ≡ c.block-in-loop-block.result.now =
    blocks_equal c.block.result.now c.block-in-loop-block.result.now c.ne.result c.ne.ensures c.if-ne.false in
    let last : block_at rows c.args.row c.loop-block.block ≡ block_at rows c.args.other c.loop-block.block =
    c.block.ensures ∙ (ap (λ (steps : List Step). Some steps) equal ∙ sym c.block-in-loop-block.ensures) in
    ⊎_elim
    (λ (before : k < c.loop-block.block). c.loop-block.invariant k before)
    (λ (past : c.loop-block.block ≤ k).
    let same : c.loop-block.block ≡ k = omega (arith, below, past) in
    subst (λ (n : ℕ). block_at rows c.args.row n ≡ block_at rows c.args.other n) same last)
    (cases_lt k c.loop-block.block)

pub returns : goal.returns
returns c = (λ yes k below. c.loop-block.invariant k (omega (arith, below, c.loop-block-test.false)), λ each. refl)
