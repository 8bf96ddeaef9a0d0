use Rattle.std.proofs.Common.{◌≡◌, arith, get_or}
use Rattle.std.proofs.lemmas.Grind.{common_steps, same_number_lists}
use Rattle.rela_labels.proofs.ReachedSymbols.{each_pushed}
use Rattle.rela_labels.proofs.partition.Partition.block_numbers.Goals as goal

pub loop-s-preserved : goal.loop-s-preserved
loop-s-preserved c = record {
  len = grind (arith, common_steps);
  each =
      each_pushed (λ k block. block ≡ get_or c.args.self.now k 0) _ _ _ _ c.in_ok-push.ensures.items
      c.loop-s.invariant.len c.loop-s.invariant.each c.block_of.ensures.block;
}

pub returns-clause-blocks : goal.returns-clause-blocks
returns-clause-blocks c =
    let len = c.loop-s.invariant.len in
    same_number_lists c.loop-s.blocks.items c.args.self.now (omega arith) (λ k within. c.loop-s.invariant.each k (omega arith))
