use Rattle.std.proofs.Common.{arith}
use Rattle.std.proofs.lemmas.Grind.{common_steps}
use Rattle.rela_shape.specs.Shape.{places_of}
use Rattle.rela_cert.proofs.renamed_blocks.renamed_block.Goals as goal

pub loop-step-preserved : goal.loop-step-preserved
loop-step-preserved c =
    let is = c.renamed_step.ensures (places_of c.args.level c.args.pair.now) c.in_ok-first.ensures in
    grind (arith, common_steps)
