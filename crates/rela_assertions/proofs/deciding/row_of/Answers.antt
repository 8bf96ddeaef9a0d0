use Rattle.rela_assertions.proofs.RowLaws.{row_decided}
use Rattle.rela_assertions.proofs.deciding.row_of.Goals as goal

pub returns : goal.returns
returns c =
    row_decided _ _ _ c.args.pair.now c.args.claim.now c.deref.result.now _
    (record { flow = c.in_ok-copy.field-0; assertion = c.in_ok-copy-2.field-0; value = c.in_ok-value.value; leaves = c.decide_tree.new.leaves })
    c.deref.ensures.value c.new-leaves.ensures.items c.in_ok-value.ensures.decided c.in_ok-copy.ensures c.in_ok-copy-2.ensures
