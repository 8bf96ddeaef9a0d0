use Rattle.rela_certfile.proofs.Written.{complements_more}
use Rattle.rela_certfile.proofs.writing.push_complements.Goals as goal

pub loop-steps-preserved : goal.loop-steps-preserved
loop-steps-preserved c =
    rw (c.in_ok-push_block.ensures, c.as_slice.ensures, c.as_slice-in-loop-steps.ensures)
    (complements_more c.args.text.now.items c.loop-steps.text.items c.args.blocks.now c.loop-steps.steps-index c.steps-item.result c.loop-steps.invariant c.loop-steps-test.true c.steps-item.is)
