use Rattle.std.proofs.Common.{◌≡◌, ◌∷◌, ◌++◌, [], length, ap, ◌∙◌, arith}
use Rattle.rela_nfa.proofs.Relabelled.{block_below, parents_more}
use Rattle.rela_nfa.proofs.relabel.parents_of.Goals as goal

pub loop-block-preserved : goal.loop-block-preserved
loop-block-preserved c =
    let before = c.loop-block.parents.items in
    let len : length before ≡ c.loop-block.block = omega (arith, c.loop-block.invariant.len, c.loop-block.parents.ok.0) in record {
      len = omega (arith, c.in_ok-push.ensures.len, c.loop-block.invariant.len);
      parents =
          parents_more c.args.fine.now c.args.coarse.now before c.push.new.self.items c.loop-block.block c.representative.result c.requires c.representative.ensures len
          (c.in_ok-push.ensures.items ∙ ap (λ b. before ++ b ∷ []) c.block_of.ensures.block) c.loop-block.invariant.parents;
    }

pub returns-clause-parents : goal.returns-clause-parents
returns-clause-parents c = λ s below.
    c.loop-block.invariant.parents s below (omega (arith, block_below c.args.fine.now s below, c.loop-block-test.false, c.blocks-block-end.ensures.count))
